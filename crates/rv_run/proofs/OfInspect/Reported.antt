-- What went out of a report, piece by piece.
use Rattle.std.proofs.Common.{◌≡◌, ◌<◌, ◌≤◌, ◌+◌, ◌*◌, ◌⊎◌, ◌++◌, ◌∷◌, ◌∙◌, ℕ, List, [], Option, Some}
use Rattle.std.proofs.Common.{ap}
use Rattle.std.proofs.Common.{append-nil, append_assoc, arith, inl, inr, length, length-append, refl}
use Rattle.std.proofs.Common.{slice_get, subst, sym, take, true}
use Rattle.std.specs.List.{flat_map}
use Rattle.std.specs.Io.KnownBytes.{Appends, append_known}
use Rattle.std.proofs.KnownBytes.{Appends-trans}
use Rattle.std.proofs.lemmas.List.{flat_map_more}
use Rattle.std.proofs.lemmas.Option.{none-some, same_Some}
use Rattle.rv_account.specs.Account.{Account}
use Rattle.rv_replies.specs.declared.findings.Finding.{Finding}
use Rattle.rv_frame.specs.declared.sink.Sink.{Sink}
use Rattle.rv_frame.specs.Sink.{SinkTakes, sink_contents, sink_failed}
use Rattle.rv_book.specs.lines.Lines.{printed_lines}
use Rattle.rv_replies.specs.declared.records.Line.{Line}
use Rattle.rv_replies.specs.declared.records.Records.{Records}
use Rattle.rv_account.proofs.OfRules.Places.{get-append_cases}
use Rattle.rv_run.specs.Output.{StopsAfter}
use Rattle.rv_run.proofs.Printing.{Appends-nothing, all_out, part_out, printed_append, promised_on}
use Rattle.rv_run.specs.inspect.Texts.{IsLineText, IsOneText}
use Rattle.rv_run.specs.inspect.Report.{SaysAll, SaysEach, SaysLine, SaysSome, TookLines, TookFront}

-- ---- bytes that went to the device or wait

pub record Sent (contents now : Option (List ℕ)) (waiting : List ℕ) (sent : ℕ) (bytes : List ℕ)
    : Type 0 where
  pub took : Appends contents (append_known now waiting) bytes
  pub count : sent + length waiting ≡ length bytes

pub none_sent : (contents : Option (List ℕ)) (waiting : List ℕ) (sent : ℕ) → waiting ≡ []
    → sent + length waiting ≡ 0 → Sent contents contents waiting sent []
none_sent contents waiting sent none count =
    record { took = Appends-nothing contents waiting none; count = omega (arith, count) }

module _ {contents now : Option (List ℕ)} {waiting : List ℕ} {sent : ℕ} {bytes : List ℕ}
    (out : Sent contents now waiting sent bytes) where
  pub sent_more : (now' : Option (List ℕ)) (waiting' text : List ℕ) (sent' : ℕ)
      → Appends (append_known now waiting) (append_known now' waiting') (text ++ 10 ∷ [])
      → sent' + length waiting' ≡ sent + length waiting + length text + 1
      → Sent contents now' waiting' sent' (bytes ++ (text ++ 10 ∷ []))
  sent_more now' waiting' text sent' took count = record {
    took = Appends-trans contents (append_known now waiting) (append_known now' waiting') bytes
        (text ++ 10 ∷ []) out.took took;
    count = omega (
      arith,
      count,
      out.count,
      length-append bytes (text ++ 10 ∷ []),
      length-append text (10 ∷ []),
    );
  }

  -- the next text is as good as gathered where its call ends by a fault
  pub sent_next : (text : List ℕ)
      → Sent contents now (waiting ++ (text ++ 10 ∷ [])) sent (bytes ++ (text ++ 10 ∷ []))
  sent_next text = sent_more now (waiting ++ (text ++ 10 ∷ [])) text sent
      (promised_on now waiting (text ++ 10 ∷ []))
      (omega (arith, length-append waiting (text ++ 10 ∷ []), length-append text (10 ∷ [])))

-- ---- the end

module _ {W : Type 0} (contents : W → Option (List ℕ)) (AreAll AreSome : List (List ℕ) → Type 0)
    (start now : Sink W) {waiting : List ℕ} {sent : ℕ} {bytes : List ℕ}
    (out : Sent (sink_contents contents start) (sink_contents contents now) waiting sent bytes)
    (texts : List (List ℕ)) (are_bytes : bytes ≡ printed_lines texts) where
  -- what waited went out
  pub sends_all : (now' : Sink W) → AreAll texts → SinkTakes contents now now' waiting
      → sink_failed now' ≡ sink_failed start → TookLines contents AreAll start now'
  sends_all now' are went stays = record {
    texts = texts;
    are = are;
    went_out = subst (SinkTakes contents start now') are_bytes (all_out (sink_contents contents start)
        (sink_contents contents now) (sink_contents contents now') waiting bytes out.took went);
    sink_stays = stays;
  }

  -- a write failed
  pub sends_front : (now' : Sink W) (gone : ℕ) → AreAll texts ⊎ AreSome texts
      → StopsAfter contents waiting sent now now' gone → sink_failed now' ≡ true
      → TookFront contents AreAll AreSome start now' gone
  sends_front now' gone are stops fails = record {
    texts = texts;
    are = are;
    not_all = omega (arith, out.count, ap length are_bytes, stops.not_all);
    went_out = subst (λ (b : List ℕ). SinkTakes contents start now' (take gone b)) are_bytes
        (part_out (sink_contents contents start) (sink_contents contents now) (sink_contents contents now')
        waiting bytes sent gone out.took out.count stops.past_those_sent stops.not_all stops.went_out);
    sink_fails = fails;
  }

-- ---- what is said of the first lines of a record

abbrev joined : List (List (List ℕ)) → List (List ℕ)
joined each = flat_map (λ own. own) each

says_none : (r : Records) (findings : List Finding) → SaysEach r findings 0 []
says_none r findings = record {
  many = refl;
  say = λ a noted index own finding texts there found at. absurd (none-some texts at);
}

same_line : (a : Account) (lines : List Line) (own : Line) (i j : ℕ) (f g : Finding)
    (texts others : List (List ℕ)) → i ≡ j → f ≡ g → texts ≡ others → SaysLine a lines i own f texts
    → SaysLine a lines j own g others
same_line a lines own i j f g texts others is same alike says =
    subst (λ (k : ℕ). SaysLine a lines k own g others) is
    (subst (λ (h : Finding). SaysLine a lines i own h others) same
    (subst (SaysLine a lines i own f) alike says))

says_more : (r : Records) (findings : List Finding) (index : ℕ) (each : List (List (List ℕ)))
    (finding : Finding) (text : List ℕ) → SaysEach r findings index each
    → slice_get findings index ≡ Some finding → (piece : IsLineText r index finding text)
    → SaysEach r findings (index + 1) (each ++ piece.lines ∷ [])
says_more r findings index each finding text says there piece = record {
  many = omega (arith, says.many, length-append each (piece.lines ∷ []));
  say = λ a noted i own f texts at found said. elim (get-append_cases each piece.lines texts i said) [
    | inl before ↦ says.say a noted i own f texts at found before.1
    | inr last ↦
        let is : i ≡ index = last.0 ∙ says.many in
        same_line a r.lines.items own index i finding f piece.lines texts (sym is)
        (same_Some finding f (sym there ∙ ap (slice_get findings) (sym is) ∙ found)) last.1
        (piece.says a own noted (subst (λ (k : ℕ). slice_get r.lines.items k ≡ Some own) is at))
  ];
}

-- the first lines and those on so many lines of the record went to the device or wait
pub record SoFar (r : Records) (findings : List Finding) (first : List ℕ)
    (contents now : Option (List ℕ)) (index : ℕ) (waiting : List ℕ) (sent : ℕ) : Type 0 where
  pub each : List (List (List ℕ))
  pub says : SaysEach r findings index each
  pub out : Sent contents now waiting sent ((first ++ 10 ∷ []) ++ printed_lines (joined each))
  pub small : sent + length waiting ≤ 9223372036854775808 * (index + 1)

-- so of the first lines alone, where an output that had nothing has taken them in
pub so_far_first : (r : Records) (findings : List Finding) (first : List ℕ)
    (contents now : Option (List ℕ)) (before waiting : List ℕ) (begun sent : ℕ) → before ≡ []
    → begun + length before ≡ 0
    → Appends (append_known contents before) (append_known now waiting) (first ++ 10 ∷ [])
    → sent + length waiting ≡ begun + length before + length first + 1
    → length first < 9223372036854775808
    → SoFar r findings first contents now 0 waiting sent
so_far_first r findings first contents now before waiting begun sent none zero took count short =
    record {
      each = [];
      says = says_none r findings;
      out = subst (Sent contents now waiting sent) (sym (append-nil (first ++ 10 ∷ [])))
          (sent_more (none_sent contents before begun none zero) now waiting first sent took count);
      small = omega (arith, count, zero, short);
    }

module _ {r : Records} {findings : List Finding} {first : List ℕ} {contents now : Option (List ℕ)} {index :
    ℕ} {waiting : List ℕ} {sent : ℕ} (so_far : SoFar r findings first contents now index waiting sent) where
  pub so_far_more : (now' : Option (List ℕ)) (waiting' text : List ℕ) (sent' : ℕ) (finding : Finding)
      → slice_get findings index ≡ Some finding → IsLineText r index finding text
      → Appends (append_known now waiting) (append_known now' waiting') (text ++ 10 ∷ [])
      → sent' + length waiting' ≡ sent + length waiting + length text + 1
      → length text < 9223372036854775808
      → SoFar r findings first contents now' (index + 1) waiting' sent'
  so_far_more now' waiting' text sent' finding there piece took count short =
      let front : List ℕ = first ++ 10 ∷ [] in
      let printed : List ℕ = printed_lines (joined so_far.each) in
      let grown : printed_lines (joined (so_far.each ++ piece.lines ∷ [])) ≡ printed ++ (text ++ 10 ∷ []) =
      ap printed_lines (sym (flat_map_more (λ (own : List (List ℕ)). own) [] so_far.each piece.lines))
      ∙ printed_append (joined so_far.each) piece.lines ∙ ap (λ b. printed ++ b) (sym piece.piece) in
      record {
        each = so_far.each ++ piece.lines ∷ [];
        says = says_more r findings index so_far.each finding text so_far.says there piece;
        out = subst (Sent contents now' waiting' sent') (append_assoc front printed (text ++ 10 ∷ [])
            ∙ ap (λ b. front ++ b) (sym grown)) (sent_more so_far.out now' waiting' text sent' took count);
        small = omega (arith, so_far.small, count, short);
      }

  -- the lines on the next line are as good as gathered where their call ends by a fault
  pub so_far_next : (text : List ℕ) (finding : Finding) → slice_get findings index ≡ Some finding
      → IsLineText r index finding text → length text < 9223372036854775808
      → SoFar r findings first contents now (index + 1) (waiting ++ (text ++ 10 ∷ [])) sent
  so_far_next text finding there piece short =
      so_far_more now (waiting ++ (text ++ 10 ∷ [])) text sent finding there piece
      (promised_on now waiting (text ++ 10 ∷ []))
      (omega (arith, length-append waiting (text ++ 10 ∷ []), length-append text (10 ∷ []))) short

  pub some_bytes : (lines : List (List ℕ)) → IsOneText lines first
      → (first ++ 10 ∷ []) ++ printed_lines (joined so_far.each) ≡ printed_lines (lines ++ joined so_far.each)
  some_bytes lines piece =
      ap (λ b. b ++ printed_lines (joined so_far.each)) piece
      ∙ sym (printed_append lines (joined so_far.each))

  pub says_some : (lines : List (List ℕ)) → index ≤ length r.lines.items
      → SaysSome lines r findings (lines ++ joined so_far.each)
  says_some lines within =
      record { count = index; within = within; each = so_far.each; says = so_far.says; texts_are = refl }

  -- with the last lines after them
  pub all_bytes : (lines counts : List (List ℕ)) (last : List ℕ) → IsOneText lines first
      → IsOneText counts last → ((first ++ 10 ∷ []) ++ printed_lines (joined so_far.each)) ++
      (last ++ 10 ∷ [])
      ≡ printed_lines (lines ++ (joined so_far.each ++ counts))
  all_bytes lines counts last piece ends =
      let printed : List ℕ = printed_lines (joined so_far.each) in
      let behind : printed ++ (last ++ 10 ∷ []) ≡ printed_lines (joined so_far.each ++ counts) =
      ap (λ b. printed ++ b) ends ∙ sym (printed_append (joined so_far.each) counts) in
      append_assoc (first ++ 10 ∷ []) printed (last ++ 10 ∷ []) ∙ ap (λ b. (first ++ 10 ∷ []) ++ b) behind
      ∙ ap (λ b. b ++ printed_lines (joined so_far.each ++ counts)) piece
      ∙ sym (printed_append lines (joined so_far.each ++ counts))

  pub says_all : (lines counts : List (List ℕ)) → index ≡ length r.lines.items
      → SaysAll lines r findings counts (lines ++ (joined so_far.each ++ counts))
  says_all lines counts is = record {
    each = so_far.each;
    says = subst (λ (n : ℕ). SaysEach r findings n so_far.each) is so_far.says;
    texts_are = refl;
  }

-- ---- how the telling of a record ends

-- so of the first lines alone, as good as gathered where their call ends by a fault
pub so_far_begun : (r : Records) (findings : List Finding) (first : List ℕ) (contents : Option (List ℕ))
    (before : List ℕ) (begun : ℕ) → before ≡ [] → begun + length before ≡ 0
    → length first < 9223372036854775808
    → SoFar r findings first contents contents 0 (before ++ (first ++ 10 ∷ [])) begun
so_far_begun r findings first contents before begun none zero short =
    so_far_first r findings first contents contents before (before ++ (first ++ 10 ∷ [])) begun begun none
    zero
    (promised_on contents before (first ++ 10 ∷ []))
    (omega (arith, length-append before (first ++ 10 ∷ []), length-append first (10 ∷ []))) short

module _ {W : Type 0} (contents : W → Option (List ℕ)) {r : Records} {findings : List Finding} {first : List
    ℕ} (start now : Sink W) {index : ℕ} {waiting : List ℕ} {sent : ℕ}
    (so_far : SoFar r findings first (sink_contents contents start) (sink_contents contents now) index waiting
    sent) (lines counts : List (List ℕ)) (piece : IsOneText lines first) where
  -- a write of what waits failed
  pub stops_some : index ≤ length r.lines.items → (now' : Sink W) (gone : ℕ)
      → StopsAfter contents waiting sent now now' gone → sink_failed now' ≡ true
      → TookFront contents (SaysAll lines r findings counts) (SaysSome lines r findings) start now' gone
  stops_some within now' gone stops fails = sends_front contents (SaysAll lines r findings counts)
      (SaysSome lines r findings) start now so_far.out (lines ++ joined so_far.each)
      (some_bytes so_far lines piece) now' gone (inr (says_some so_far lines within)) stops fails

  -- what waits went out
  pub ends_some : index ≤ length r.lines.items → (now' : Sink W) → SinkTakes contents now now' waiting
      → sink_failed now' ≡ sink_failed start → TookLines contents (SaysSome lines r findings) start now'
  ends_some within now' went stays = sends_all contents (SaysSome lines r findings)
      (SaysSome lines r findings) start now so_far.out (lines ++ joined so_far.each)
      (some_bytes so_far lines piece) now' (says_some so_far lines within) went stays

  module _ (last : List ℕ) (ends : IsOneText counts last) (all : index ≡ length r.lines.items) where
    -- a write failed as the last lines were to be gathered
    pub stops_last : (now' : Sink W) (gone : ℕ)
        → StopsAfter contents (waiting ++ (last ++ 10 ∷ [])) sent now now' gone → sink_failed now' ≡ true
        → TookFront contents (SaysAll lines r findings counts) (SaysSome lines r findings) start now' gone
    stops_last now' gone stops fails = sends_front contents (SaysAll lines r findings counts)
        (SaysSome lines r findings) start now (sent_next so_far.out last)
        (lines ++ (joined so_far.each ++ counts)) (all_bytes so_far lines counts last piece ends) now' gone
        (inl (says_all so_far lines counts all)) stops fails

    module _ (mid : Sink W) (waiting' : List ℕ) (sent' : ℕ)
        (took : Appends (append_known (sink_contents contents now) waiting)
        (append_known (sink_contents contents mid) waiting') (last ++ 10 ∷ []))
        (count : sent' + length waiting' ≡ sent + length waiting + length last + 1) where
      -- they were gathered, and a write of what waits failed
      pub stops_end : (now' : Sink W) (gone : ℕ) → StopsAfter contents waiting' sent' mid now' gone
          → sink_failed now' ≡ true
          → TookFront contents (SaysAll lines r findings counts) (SaysSome lines r findings) start now' gone
      stops_end now' gone stops fails = sends_front contents (SaysAll lines r findings counts)
          (SaysSome lines r findings) start mid
          (sent_more so_far.out (sink_contents contents mid) waiting' last sent' took count)
          (lines ++ (joined so_far.each ++ counts)) (all_bytes so_far lines counts last piece ends) now' gone
          (inl (says_all so_far lines counts all)) stops fails

      -- and all that waits went out
      pub ends_all : (now' : Sink W) → SinkTakes contents mid now' waiting'
          → sink_failed now' ≡ sink_failed start
          → TookLines contents (SaysAll lines r findings counts) start now'
      ends_all now' went stays = sends_all contents (SaysAll lines r findings counts)
          (SaysSome lines r findings) start mid
          (sent_more so_far.out (sink_contents contents mid) waiting' last sent' took count)
          (lines ++ (joined so_far.each ++ counts)) (all_bytes so_far lines counts last piece ends) now'
          (says_all so_far lines counts all) went stays
