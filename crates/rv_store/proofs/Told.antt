-- What was told is found: a crash leaves the lines of a front of the account that has all that was told.
use Rattle.std.proofs.Common.{◌≡◌, ◌≤◌, ◌<◌, ◌+◌, ◌-◌, ◌++◌, ◌∷◌, ◌∙◌, ℕ, List, [], true, ap}
use Rattle.std.proofs.Common.{map}
use Rattle.std.proofs.Common.{append_assoc, arith, drop, length, length-append, refl, subst, suc, sym}
use Rattle.std.proofs.Common.{take, zero}
use Rattle.std.proofs.Math.Seq.{take-append_seam, take-append-add, take-length}
use Rattle.std.proofs.lemmas.List.{length-map, length-take, length-take-le, take-append-drop, take-map}
use Rattle.rv_account.specs.Account.{Account}
use Rattle.rv_account.specs.declared.entry.Entry.{Entry}
use Rattle.rv_account.specs.Limits.{max_moment}
use Rattle.rv_engine.specs.EngineRuns.{BeginsStored, EngineEffect, RunsEngine, answers_in, bytes_written}
use Rattle.rv_engine.specs.Engines.{EngineState}
use Rattle.rv_engine.specs.Handing.{entry_lines, unwritten}
use Rattle.rv_engine.proofs.Gathered.{lines_append}
use Rattle.rv_engine.proofs.Running.{accounts_are_kept, engines_are_runs}
use Rattle.rv_engine.proofs.Stored.{told_is_stored}
use Rattle.rv_frame.specs.Lasting.{HasFrontAfter}
use Rattle.rv_hub.specs.HubRuns.{AddsEntries, IsHubAccount, made_in, run_effects}
use Rattle.rv_hub.specs.dispatcher.View.{DispatcherTerms}
use Rattle.rv_account.specs.rules.StepLimits.{AreStepLimits}
use Rattle.rv_hub.specs.Turns.{made_by}
use Rattle.rv_hub.proofs.OneRun.{hubs_are_runs}
use Rattle.rv_journal.specs.Text.{whole_lines}
use Rattle.rv_journal.proofs.Lines.{whole_lines-append, whole_lines-lf}
use Rattle.rv_book.specs.lines.Lines.{lines, printed_lines}
use Rattle.rv_book.specs.lines.Written.{FitsLinesUnder, account_lines, entry_text, head_text}
use Rattle.rv_book.proofs.OfLines.ReadBack.{all_in_lines, lines_again}
use Rattle.rv_account.specs.rules.Legal.{Legal, before}
use Rattle.rv_account.proofs.OfRules.Places.{within}
use Rattle.rv_store.proofs.OfServers.Room.{events_keep_room, fronts_go_on}
use Rattle.rv_account.specs.state.After.{state_of}
use Rattle.rv_account.specs.state.resume.Laws.{HadRoom}
use Rattle.rv_account.proofs.OfState.Agreed.{agreed}
use Rattle.rv_text.specs.Members.{max_identifier}
use Rattle.rv_verify.specs.Verdicts.{ReadsLong, long_limits}
use Rattle.rv_store.specs.Format.{format}
use Rattle.rv_store.specs.Found.{IsFoundAfter, ToldIsFound, journal_lines}
use Rattle.rv_store.proofs.Fronts.{HasWholeLines, fronts}

-- ---- the lines of a legal account whose state has had room

few_entries : (a : Account) → Legal a → HadRoom a → length a.entries ≤ max_identifier
few_entries a legal had =
    let whole : before a (length a.entries) ≡ a =
    λ i. record { epoch = a.epoch; opened = a.opened; entries = take-length a.entries i } in
    let count : (state_of (before a (length a.entries))).length ≡ length a.entries =
    ap (λ (x : Account). (state_of x).length) whole ∙ (agreed a legal).length in
    omega (arith, count, (had.room (length a.entries)).space)

-- they can be written, and are read again
fits_long : (a : Account) → Legal a → HadRoom a → FitsLinesUnder long_limits a
fits_long a legal had = record {
  epoch = had.epoch;
  opened = had.opened;
  entries = had.entries;
  places = λ r e there p named. omega (
    arith,
    ((legal r e there).pairs.names_free_partners.free p named).earlier,
    length-take r a.entries,
    within a.entries r e there,
    few_entries a legal had,
  );
  few = few_entries a legal had;
}

read_again : (a : Account) → Legal a → HadRoom a → ReadsLong (lines (printed_lines (account_lines a))) a
read_again a legal had = lines_again long_limits a (omega arith) (fits_long a legal had)

-- ---- the first of them are those of a front of the account

lines_to : (a : Account) (n : ℕ) → take (suc n) (account_lines a) ≡ account_lines (before a n)
lines_to a n = ap (λ (l : List (List ℕ)). head_text a.epoch a.opened ∷ l) (take-map entry_text n a.entries)

-- and of an account that has these entries more
module _ (was after : Account) (made front behind : List Entry) (adds : AddsEntries was made after)
    (parts : made ≡ front ++ behind) where
  entries_are : after.entries ≡ (was.entries ++ front) ++ behind
  entries_are = adds.entries ∙ ap (λ (l : List Entry). was.entries ++ l) parts
      ∙ sym (append_assoc was.entries front behind)

  first_entries : take (length (was.entries ++ front)) after.entries ≡ was.entries ++ front
  first_entries =
      ap (take (length (was.entries ++ front))) entries_are ∙ take-append_seam (was.entries ++ front) behind

  -- the lines that were written
  first_lines : printed_lines (take (suc (length (was.entries ++ front))) (account_lines after))
      ≡ printed_lines (account_lines was) ++ entry_lines front
  first_lines =
      ap printed_lines (lines_to after (length (was.entries ++ front)))
      ∙ ap (λ (l : List Entry). head_text after.epoch after.opened ++ 10 ∷ entry_lines l) first_entries
      ∙ ap (λ (n : ℕ). head_text n after.opened ++ 10 ∷ entry_lines (was.entries ++ front)) adds.epoch
      ∙ ap (λ (n : ℕ). head_text was.epoch n ++ 10 ∷ entry_lines (was.entries ++ front)) adds.opened
      ∙ ap (λ (l : List ℕ). head_text was.epoch was.opened ++ 10 ∷ l) (lines_append was.entries front)
      ∙ sym (append_assoc (head_text was.epoch was.opened) (10 ∷ entry_lines was.entries) (entry_lines front))

-- ---- the law

-- The whole lines of this text are read as an account that has all that was told.
record FindsLines (was : Account) (made : List Entry) (told : ℕ) (text : List ℕ) : Type 0 where
  pub found : Account
  pub is : IsFoundAfter was made told found
  pub read : ReadsLong (lines (whole_lines text)) found

module _ (was after : Account) (made front behind : List Entry) (told stored : ℕ) (left held more : List ℕ)
    (n : ℕ) (adds : AddsEntries was made after) (parts : made ≡ front ++ behind) (legal : Legal after)
    (had : HadRoom after) (holds : held ≡ printed_lines (account_lines was) ++ entry_lines front)
    (text : printed_lines (account_lines after) ≡ held ++ more) (left_is : left ≡ held ++ take n more)
    (count : stored ≡ length was.entries + length front) (within_stored : told ≤ stored) where
  is_front : left ≡ take (length held + n) (printed_lines (account_lines after))
  is_front = left_is ∙ sym (take-append-add held more n) ∙ ap (take (length held + n)) (sym text)

  cut : HasWholeLines (account_lines after) left
  cut = subst (HasWholeLines (account_lines after)) (sym is_front)
      (fronts (account_lines after) (all_in_lines long_limits (omega arith) after (fits_long after legal had))
      (length held + n))

  at_least : suc (length (was.entries ++ front)) ≤ cut.count
  at_least = cut.at_least (suc (length (was.entries ++ front)))
      (omega (
        arith,
        length-map after.entries entry_text,
        ap length (entries_are was after made front behind adds
            parts),
        length-append (was.entries ++ front) behind,
      ))
      (omega (
        arith,
        ap length (first_lines was after made front behind adds parts ∙ sym holds),
        ap length left_is,
        length-append held (take n more),
      ))

  found_by : (m : ℕ) → cut.count ≡ suc m → FindsLines was made told left
  found_by m is =
      let found : Account = before after m in
      let extra : ℕ = m - length was.entries in
      let split : m ≡ length was.entries + extra =
      omega (arith, at_least, is, length-append was.entries front) in
      let goes = fronts_go_on after m legal had in
      let low : m ≤ length after.entries =
      omega (arith, is, cut.within, length-map after.entries entry_text) in
      record {
        found = found;
        is = record {
          front = take extra made;
          more = drop extra made;
          parts = sym (take-append-drop extra made);
          adds = record {
            epoch = adds.epoch;
            opened = adds.opened;
            entries = ap (λ (k : ℕ). take k after.entries) split
                ∙ ap (take (length was.entries + extra)) adds.entries
                ∙ take-append-add was.entries made extra;
          };
          goes_on = goes;
          all_told = omega (
            arith,
            within_stored,
            count,
            at_least,
            is,
            length-append was.entries front,
            length-take-le m after.entries low,
          );
        };
        read = subst (λ (l : List ℕ). ReadsLong (lines l) found)
            (sym (cut.whole ∙ ap (λ (k : ℕ). printed_lines (take k (account_lines after))) is
            ∙ ap printed_lines (lines_to after m)))
            (read_again found goes.legal goes.had_room);
      }

  some : (k : ℕ) → 0 < k → (m : ℕ) × (k ≡ suc m)
  some zero low = absurd (omega (arith, low))
  some (suc m) low = (m, refl)

  found : FindsLines was made told left
  found = let one = some cut.count (omega (arith, at_least)) in found_by one.0 one.1

found_in_lines : (terms : DispatcherTerms) (effects : List EngineEffect) (s t : EngineState) (a : Account)
    (left : List ℕ) → AreStepLimits terms.limits → RunsEngine true terms s effects t → BeginsStored s
    → t.hub.now ≤ max_moment → IsHubAccount a s.hub → HadRoom a
    → HasFrontAfter (printed_lines (account_lines a) ++ bytes_written effects) (unwritten t) left
    → FindsLines a (made_in (answers_in effects)) t.hub.open_wires.written left
found_in_lines terms effects s t a left limits runs begins moment is had has =
    let kept = accounts_are_kept terms effects s t a limits runs begins.all moment is in
    let run = engines_are_runs true terms effects s t runs in
    let hub = hubs_are_runs true terms (answers_in effects) s.hub t.hub run.hub in
    let events = run_effects true terms (answers_in effects) s.hub t.hub run.hub in
    let by_events : AddsEntries a (made_by events) kept.after =
    subst (λ (es : List Entry). AddsEntries a es kept.after) hub.made_is kept.adds in
    let room =
    events_keep_room terms events s.hub t.hub a kept.after limits hub.does moment is by_events had in
    let stored = told_is_stored terms effects s t runs begins in
    let held : List ℕ = printed_lines (account_lines a) ++ bytes_written effects in
    let length_is : s.hub.book.length ≡ length a.entries =
    ap (λ x. x.length) (sym is.state) ∙ (agreed a is.legal).length in
    found a kept.after (made_in (answers_in effects)) stored.front stored.behind t.hub.open_wires.written
    t.stored left held (unwritten t) has.0 kept.adds stored.parts kept.is.legal room
    (ap (λ (l : List ℕ). printed_lines (account_lines a) ++ l) stored.lines)
    (kept.text ∙ sym (append_assoc (printed_lines (account_lines a)) (bytes_written effects) (unwritten t)))
    has.1 (omega (arith, stored.count, length_is)) stored.told

-- ---- and in a journal

-- lines after other bytes
whole_behind : (text line rest : List ℕ)
    → whole_lines (text ++ (line ++ 10 ∷ rest)) ≡ text ++ whole_lines (line ++ 10 ∷ rest)
whole_behind text line rest =
    ap whole_lines (sym (append_assoc text line (10 ∷ rest)) ∙ sym (append_assoc (text ++ line) (10 ∷ [])
    rest))
    ∙ whole_lines-append ((text ++ line) ++ 10 ∷ []) rest (whole_lines-lf (text ++ line))
    ∙ append_assoc (text ++ line) (10 ∷ []) (whole_lines rest)
    ∙ append_assoc text line (10 ∷ whole_lines rest)
    ∙ ap (λ (l : List ℕ). text ++ l) (sym (append_assoc line (10 ∷ []) (whole_lines rest)))
    ∙ ap (λ (l : List ℕ). text ++ l) (sym (whole_lines-append (line ++ 10 ∷ []) rest (whole_lines-lf line)))
    ∙ ap (λ (l : List ℕ). text ++ whole_lines l) (append_assoc line (10 ∷ []) rest)

module _ (a : Account) (written more : List ℕ) where
  abbrev account_left : List ℕ
  account_left = (printed_lines (account_lines a) ++ written) ++ more

  journal_left : (journal_lines a ++ written) ++ more ≡ format ++ account_left
  journal_left =
      ap (λ (l : List ℕ). l ++ more) (append_assoc format (printed_lines (account_lines a)) written)
      ∙ append_assoc format (printed_lines (account_lines a) ++ written) more

  -- what stands after its first line
  abbrev later : List ℕ
  later = (printed_lines (map entry_text a.entries) ++ written) ++ more

  begins_with_line : account_left ≡ head_text a.epoch a.opened ++ 10 ∷ later
  begins_with_line =
      ap (λ (l : List ℕ). l ++ more)
      (append_assoc (head_text a.epoch a.opened) (10 ∷ printed_lines (map entry_text a.entries)) written)
      ∙ append_assoc (head_text a.epoch a.opened) (10 ∷ printed_lines (map entry_text a.entries) ++ written)
      more

  lines_left : whole_lines (format ++ account_left) ≡ format ++ whole_lines account_left
  lines_left =
      ap (λ (l : List ℕ). whole_lines (format ++ l)) begins_with_line
      ∙ whole_behind format (head_text a.epoch a.opened) later
      ∙ ap (λ (l : List ℕ). format ++ whole_lines l) (sym begins_with_line)

pub told_is_found : ToldIsFound
told_is_found terms effects s t a left limits runs begins moment is had has =
    let written : List ℕ = bytes_written effects in
    let more : List ℕ = take has.0 (unwritten t) in
    let found = found_in_lines terms effects s t a (account_left a written more) limits runs begins moment is
    had
    (has.0, refl) in
    record {
      found = found.found;
      is = found.is;
      account = whole_lines (account_left a written more);
      journal = ap whole_lines (has.1 ∙ journal_left a written more) ∙ lines_left a written more;
      read = found.read;
    }
