-- How far the lines of an account are written.
use Rattle.std.proofs.Common.{◌≡◌, ◌≤◌, ◌<◌, ◌+◌, ◌*◌, ◌^◌, ℕ, zero, suc, List, [], ◌∷◌, ◌++◌, Option, Some}
use Rattle.std.proofs.Common.{None, true, option_map, sym, ap, subst, ◌∙◌, length, take, drop, map, arith}
use Rattle.std.proofs.Common.{length-append}
use Rattle.std.specs.Prelude.{slice_get}
use Rattle.std.proofs.lemmas.List.{length-map, take-append-drop, take-append-le, take_all}
use Rattle.std.specs.Io.KnownBytes.{Appends, append_known}
use Rattle.std.proofs.KnownBytes.{Appends-trans}
use Rattle.rv_frame.specs.declared.sink.Sink.{Sink}
use Rattle.rv_frame.specs.Sink.{SinkTakes, sink_contents, sink_failed}
use Rattle.rv_account.specs.declared.entry.Entry.{Entry}
use Rattle.rv_account.specs.Account.{Account}
use Rattle.rv_account.proofs.OfRules.Places.{within}
use Rattle.rv_book.specs.lines.Lines.{printed_lines}
use Rattle.rv_book.specs.lines.Written.{account_lines, entry_text}
use Rattle.rv_app.specs.Accounts.{WritesAll, WritesFront, WritesSome}
use Rattle.rv_run.specs.Output.{StopsAfter}
use Rattle.rv_run.proofs.Printing.{all_out, part_out, printed_append, promised_on}

-- ---- the next line

take_next : (xs : List (List ℕ)) (n : ℕ) (x : List ℕ) → slice_get xs n ≡ Some x
    → take (suc n) xs ≡ take n xs ++ x ∷ []
take_next [] zero x there = absurd (cc)
take_next [] (suc n) x there = absurd (cc)
take_next (y ∷ ys) zero x there = (cc)
take_next (y ∷ ys) (suc n) x there = ap (λ l. y ∷ l) (take_next ys n x there)

entry_at : (entries : List Entry) (place : ℕ) (e : Entry) → slice_get entries place ≡ Some e
    → slice_get (map entry_text entries) place ≡ Some (entry_text e)
entry_at [] zero e there = absurd (cc)
entry_at [] (suc place) e there = absurd (cc)
entry_at (x ∷ entries) zero e there = ap (option_map entry_text) there
entry_at (x ∷ entries) (suc place) e there = entry_at entries place e there

past_end : (entries : List Entry) (place : ℕ) → slice_get entries place ≡ None → length entries ≤ place
past_end [] place there = omega arith
past_end (x ∷ entries) zero there = absurd (cc)
past_end (x ∷ entries) (suc place) there = omega (arith, past_end entries place there)

line_at : (a : Account) (n place : ℕ) (e : Entry) → n ≡ place + 1 → slice_get a.entries place ≡ Some e
    → slice_get (account_lines a) n ≡ Some (entry_text e)
line_at a zero place e is there = absurd (omega arith)
line_at a (suc n) place e is there =
    let same : place ≡ n = omega arith in
    subst (λ (k : ℕ). slice_get (map entry_text a.entries) k ≡ Some (entry_text e)) same
    (entry_at a.entries place e there)

-- the first line, and those of so many entries, went to the device or are gathered
pub record Wrote (contents : Option (List ℕ)) (a : Account) (now : Option (List ℕ)) (place : ℕ) (waiting :
    List ℕ) (sent : ℕ) : Type 0 where
  pub many : ℕ
  pub many_is : many ≡ place + 1
  pub inside : place ≤ length a.entries
  pub took : Appends contents (append_known now waiting) (printed_lines (take many (account_lines a)))
  pub count : sent + length waiting ≡ length (printed_lines (take many (account_lines a)))
  pub small : sent + length waiting ≤ 65727 + 18446744073709551616 * place

module _ {contents : Option (List ℕ)} {a : Account} {now : Option (List ℕ)} {place : ℕ} {waiting : List ℕ}
    {sent : ℕ} (so_far : Wrote contents a now place waiting sent) where
  pub wrote_more : (now' : Option (List ℕ)) (waiting' text : List ℕ) (e : Entry) (sent' : ℕ)
      → slice_get a.entries place ≡ Some e → text ≡ entry_text e
      → Appends (append_known now waiting) (append_known now' waiting') (text ++ 10 ∷ [])
      → sent' + length waiting' ≡ sent + length waiting + length text + 1 → length text < 2 ^ 64
      → Wrote contents a now' (place + 1) waiting' sent'
  wrote_more now' waiting' text e sent' there is took count short =
      let front = take so_far.many (account_lines a) in
      let next : printed_lines (take (suc so_far.many) (account_lines a)) ≡ printed_lines front ++
      (entry_text e ++ 10 ∷ []) =
      ap printed_lines (take_next (account_lines a) so_far.many (entry_text e) (line_at a so_far.many place e
      so_far.many_is there)) ∙ printed_append front (entry_text e ∷ []) in
      let same : text ++ 10 ∷ [] ≡ entry_text e ++ 10 ∷ [] = ap (λ (t : List ℕ). t ++ 10 ∷ []) is in
      record {
        many = suc so_far.many;
        many_is = omega (arith, so_far.many_is);
        inside = omega (arith, within a.entries place e there);
        took = subst (Appends contents (append_known now' waiting'))
            (ap (λ (t : List ℕ). printed_lines front ++ t) same ∙ sym next)
            (Appends-trans contents (append_known now waiting) (append_known now' waiting')
            (printed_lines front) (text ++ 10 ∷ []) so_far.took took);
        count = omega (
          arith,
          count,
          so_far.count,
          ap length next,
          length-append (printed_lines front)
              (entry_text e ++ 10 ∷ []),
          length-append (entry_text e) (10 ∷ []),
          ap length is,
        );
        small = omega (arith, so_far.small, count, short);
      }

  -- the next line is as good as gathered where its call ends by a fault
  pub wrote_next : (text : List ℕ) (e : Entry) → slice_get a.entries place ≡ Some e → text ≡ entry_text e
      → length text < 2 ^ 64 → Wrote contents a now (place + 1) (waiting ++ (text ++ 10 ∷ [])) sent
  wrote_next text e there is short =
      wrote_more now (waiting ++ (text ++ 10 ∷ [])) text e sent there is (promised_on now waiting
      (text ++ 10 ∷ []))
      (omega (arith, length-append waiting (text ++ 10 ∷ []), length-append text (10 ∷ []))) short

-- ---- the end

module _ {W : Type 0} (contents : W → Option (List ℕ)) {a : Account} (start now : Sink W) {place : ℕ}
    {waiting : List ℕ} {sent : ℕ}
    (so_far : Wrote (sink_contents contents start) a (sink_contents contents now) place waiting sent) where
  -- what was gathered went out
  front_out : (now' : Sink W) → SinkTakes contents now now' waiting
      → SinkTakes contents start now' (printed_lines (take so_far.many (account_lines a)))
  front_out now' out =
      all_out (sink_contents contents start) (sink_contents contents now) (sink_contents contents now')
      waiting (printed_lines (take so_far.many (account_lines a))) so_far.took out

  pub writes_all : (now' : Sink W) → slice_get a.entries place ≡ None → sink_failed now' ≡ sink_failed start
      → SinkTakes contents now now' waiting → WritesAll contents a start now'
  writes_all now' none stays out =
      let all : take so_far.many (account_lines a) ≡ account_lines a =
      take_all so_far.many (account_lines a) (omega (
        arith,
        so_far.many_is,
        past_end a.entries place none,
        length-map a.entries entry_text,
      )) in
      record {
        went_out = subst (λ (l : List (List ℕ)). SinkTakes contents start now' (printed_lines l)) all
            (front_out now' out);
        sink_stays = stays;
      }

  -- a line has no text, for want of memory
  pub writes_some : (now' : Sink W) (e : Entry) → slice_get a.entries place ≡ Some e
      → sink_failed now' ≡ sink_failed start → SinkTakes contents now now' waiting
      → WritesSome contents a start now'
  writes_some now' e there stays out = record {
    count = so_far.many;
    not_all = omega (arith, so_far.many_is, within a.entries place e there, length-map a.entries entry_text);
    went_out = front_out now' out;
    sink_stays = stays;
  }

  -- a write failed
  pub writes_front : (now' : Sink W) (out : ℕ) → StopsAfter contents waiting sent now now' out
      → sink_failed now' ≡ true → WritesFront contents a start now' out
  writes_front now' out stops fails =
      let first = take so_far.many (account_lines a) in
      let later = drop so_far.many (account_lines a) in
      let joined : printed_lines (account_lines a) ≡ printed_lines first ++ printed_lines later =
      ap printed_lines (sym (take-append-drop so_far.many (account_lines a))) ∙ printed_append first later
      in
      let front : take out (printed_lines (account_lines a)) ≡ take out (printed_lines first) = ap (take out)
      joined ∙ take-append-le out (printed_lines first) (printed_lines later)
      (omega (arith, so_far.count, stops.not_all)) in
      let went = part_out (sink_contents contents start) (sink_contents contents now) (sink_contents contents
      now') waiting (printed_lines first) sent out so_far.took so_far.count stops.past_those_sent
      stops.not_all stops.went_out in
      record {
        not_all = omega (
          arith,
          so_far.count,
          ap length joined,
          length-append (printed_lines first)
              (printed_lines later),
          stops.not_all,
        );
        went_out = subst (SinkTakes contents start now') (sym front) went;
        sink_fails = fails;
      }
