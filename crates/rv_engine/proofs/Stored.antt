-- Over every run the device took the lines of a front of the entries, and the hub was told of no more.
use Rattle.std.proofs.Common.{◌≡◌, ◌≤◌, ◌+◌, ◌-◌, ◌∙◌, ◌++◌, ◌∷◌, ℕ, List, [], true, ap}
use Rattle.std.proofs.Common.{append-nil, append_assoc, arith, length, length-append, refl, subst, sym}
use Rattle.std.proofs.lemmas.List.Elements.{All-weaker}
use Rattle.rv_account.specs.declared.entry.Entry.{Entry}
use Rattle.rv_server_connections.specs.connection.Traffic.{AnswerByte, Traffic}
use Rattle.rv_hub.specs.dispatcher.View.{DispatcherState, DispatcherTerms}
use Rattle.rv_hub.specs.HubRuns.{AddsEntries, TookEvent, made_in, run_effects}
use Rattle.rv_hub.specs.Pasts.{IsPast, Past}
use Rattle.rv_hub.specs.Turns.{TakesEvent}
use Rattle.rv_hub.proofs.Accounts.{events_lead}
use Rattle.rv_hub.proofs.HandedOver.{handed_out}
use Rattle.rv_hub.proofs.OneRun.{hubs_are_runs}
use Rattle.rv_engine.specs.declared.events.EngineFault.TheVariants as fault
use Rattle.rv_engine.specs.Engines.{EngineState}
use Rattle.rv_engine.specs.Handing.{GathersFront, entry_lines}
use Rattle.rv_engine.specs.EngineRuns.{BeginsStored, EngineEffect, GatheredLines, HandedOn, LeavesStored}
use Rattle.rv_engine.specs.EngineRuns.{LeftIsStored, Looked, NotTaken, RunsEngine, StoredLines, ToldIsStored}
use Rattle.rv_engine.specs.EngineRuns.{answers_in, bytes_written}
use Rattle.rv_engine.proofs.Gathered.{gathers_all, gathers_behind, lines_append}
use Rattle.rv_engine.proofs.Running.{longer}
use Rattle.rv_engine.proofs.Telling.{told_within}

-- these entries have the lines that are gathered, after those that are stored
record IsHalfway (s : EngineState) (gathered : List Entry) : Type 0 where
  pub lines : s.lines ≡ entry_lines gathered
  pub count : s.hub.book.length ≡ s.stored + (length gathered + length s.left)
  pub told : s.hub.open_wires.written ≤ s.stored

-- from there on a front of these, of those that are left, and of those that were made is stored
record GoesOnStored (s : EngineState) (gathered made : List Entry) (bytes : List ℕ) (t : EngineState) : Type 0
  where
    pub front : List Entry
    pub behind : List Entry
    pub parts : gathered ++ (s.left ++ made) ≡ front ++ behind
    pub lines : bytes ≡ entry_lines front
    pub count : t.stored ≡ s.stored + length front
    pub told : t.hub.open_wires.written ≤ t.stored

regroup : (a b c d : List Entry) → a ++ ((b ++ c) ++ d) ≡ (a ++ b) ++ (c ++ d)
regroup a b c d = ap (λ (l : List Entry). a ++ l) (append_assoc b c d) ∙ sym (append_assoc a b (c ++ d))

one_longer : (terms : DispatcherTerms) (s t : DispatcherState) (handed : ℕ) (what : _) (made : List Entry)
    (given : ℕ)
    → TakesEvent true terms s handed what made given t → t.book.length ≡ s.book.length + length made
one_longer terms s t handed what made given takes =
    longer terms (TookEvent handed what made given ∷ []) s t (t, takes, refl)
    ∙ ap (λ (l : List Entry). s.book.length + length l) (append-nil made)

-- ---- entries are added, and a front of those that aren't gathered is

module _ (s mid : EngineState) (gathered added entries : List Entry) (is : s.left ++ added ≡ entries)
    (gathers : GathersFront entries s.lines mid.left mid.lines) (same : mid.stored ≡ s.stored) where
  half_on : mid.hub.book.length ≡ s.hub.book.length + length added
      → mid.hub.open_wires.written ≤ mid.stored → IsHalfway s gathered
      → IsHalfway mid (gathered ++ gathers.front)
  half_on grows told half =
      let sum = ap length (is ∙ gathers.parts) in
      let one = length-append s.left added in
      let two = length-append gathers.front mid.left in
      let three = length-append gathered gathers.front in
      record {
        lines = gathers.gathered ∙ ap (λ (l : List ℕ). l ++ entry_lines gathers.front) half.lines
            ∙ sym (lines_append gathered gathers.front);
        count = omega (arith, grows, half.count, sum, one, two, three, same);
        told = told;
      }

  pass_on : (rest : List Entry) (bytes : List ℕ) (t : EngineState)
      → GoesOnStored mid (gathered ++ gathers.front) rest bytes t
      → GoesOnStored s gathered (added ++ rest) bytes t
  pass_on rest bytes t on = record {
    front = on.front;
    behind = on.behind;
    parts = ap (λ (l : List Entry). gathered ++ l) (sym (append_assoc s.left added rest))
        ∙ ap (λ (l : List Entry). gathered ++ (l ++ rest)) (is ∙ gathers.parts)
        ∙ regroup gathered gathers.front mid.left rest ∙ on.parts;
    lines = on.lines;
    count = on.count ∙ ap (λ (n : ℕ). n + length on.front) same;
    told = on.told;
  }

-- ---- the lines that are gathered are stored

module _ (s mid : EngineState) (gathered : List Entry) (bytes : List ℕ)
    (gathers : GathersFront s.left s.lines mid.left (bytes ++ mid.lines)) (gone : mid.lines ≡ [])
    (book : mid.hub.book.length ≡ s.hub.book.length)
    (count : mid.stored ≡ mid.hub.book.length - length mid.left) (half : IsHalfway s gathered) where
  stored_more : mid.stored ≡ s.stored + (length gathered + length gathers.front)
  stored_more =
      let sum = ap length gathers.parts in
      let two = length-append gathers.front mid.left in
      omega (arith, count, book, half.count, sum, two)

  half_stored : mid.hub.open_wires.written ≡ s.hub.open_wires.written → IsHalfway mid []
  half_stored same =
      let sum = ap length gathers.parts in
      let two = length-append gathers.front mid.left in
      record {
        lines = gone;
        count = omega (arith, count, book, half.count, sum, two);
        told = omega (arith, same, half.told, stored_more);
      }

  bytes_are : bytes ≡ entry_lines (gathered ++ gathers.front)
  bytes_are =
      sym (append-nil bytes) ∙ ap (λ (l : List ℕ). bytes ++ l) (sym gone) ∙ gathers.gathered
      ∙ ap (λ (l : List ℕ). l ++ entry_lines gathers.front) half.lines
      ∙ sym (lines_append gathered gathers.front)

  pass_stored : (made : List Entry) (more : List ℕ) (t : EngineState) → GoesOnStored mid [] made more t
      → GoesOnStored s gathered made (bytes ++ more) t
  pass_stored made more t on =
      let all = gathered ++ gathers.front in
      let one = length-append gathered gathers.front in
      let two = length-append all on.front in
      record {
        front = all ++ on.front;
        behind = on.behind;
        parts = ap (λ (l : List Entry). gathered ++ (l ++ made)) gathers.parts
            ∙ regroup gathered gathers.front mid.left made ∙ ap (λ (l : List Entry). all ++ l) on.parts
            ∙ sym (append_assoc all on.front on.behind);
        lines = ap (λ (l : List ℕ). l ++ more) bytes_are
            ∙ ap (λ (l : List ℕ). entry_lines all ++ l) on.lines ∙ sym (lines_append all on.front);
        count = omega (arith, on.count, stored_more, one, two);
        told = on.told;
      }

-- ---- a run

goes_on : (terms : DispatcherTerms) (effects : List EngineEffect) (s t : EngineState) (gathered : List Entry)
    → RunsEngine true terms s effects t → IsHalfway s gathered
    → GoesOnStored s gathered (made_in (answers_in effects)) (bytes_written effects) t
goes_on terms [] s t gathered same half =
    let stored : t.stored ≡ s.stored = ap (λ (x : EngineState). x.stored) same in
    let written : t.hub.open_wires.written ≡ s.hub.open_wires.written =
    ap (λ (x : EngineState). x.hub.open_wires.written) same in
    record {
      front = [];
      behind = gathered ++ (s.left ++ []);
      parts = refl;
      lines = refl;
      count = omega (arith, stored);
      told = omega (arith, stored, written, half.told);
    }
goes_on terms (HandedOn handed what made given ∷ effects) s t gathered (mid, does, later) half =
    let gathers = gathers_behind s.left made mid.left s.lines mid.lines does.gathers in
    let told = told_within terms s.hub handed what made given mid.hub s.stored does.takes does.tells half.told
    in
    let now = half_on s mid gathered made (s.left ++ made) refl gathers does.stored
    (one_longer terms s.hub mid.hub handed what made given does.takes)
    (subst (λ (n : ℕ). mid.hub.open_wires.written ≤ n) (sym does.stored) told) half in
    pass_on s mid gathered made (s.left ++ made) refl gathers does.stored _ _ t
    (goes_on terms effects mid t _ later now)
goes_on terms (NotTaken what (fault.Refused why) ∷ effects) s t gathered (mid, does, later) half =
    let gathers = gathers_all s.left mid.left s.lines mid.lines does.left does.lines in
    let book : mid.hub.book.length ≡ s.hub.book.length + 0 =
    ap (λ (u : DispatcherState). u.book.length) does.hub ∙ omega arith in
    let written : mid.hub.open_wires.written ≡ s.hub.open_wires.written =
    ap (λ (u : DispatcherState). u.open_wires.written) does.hub in
    let now = half_on s mid gathered [] s.left (append-nil s.left) gathers does.stored book
    (omega (arith, written, half.told, does.stored)) half in
    pass_on s mid gathered [] s.left (append-nil s.left) gathers does.stored _ _ t
    (goes_on terms effects mid t _ later now)
goes_on terms (NotTaken what fault.NoMemory ∷ effects) s t gathered (mid, does, later) half =
    let gathers = does.gathers.gathers in
    let stored = does.gathers.stored in
    let book : mid.hub.book.length ≡ s.hub.book.length + 0 =
    ap (λ (u : DispatcherState). u.book.length) does.gathers.hub ∙ omega arith in
    let written : mid.hub.open_wires.written ≡ s.hub.open_wires.written =
    ap (λ (u : DispatcherState). u.open_wires.written) does.gathers.hub in
    let now = half_on s mid gathered [] s.left (append-nil s.left) gathers stored book
    (omega (arith, written, half.told, stored)) half in
    pass_on s mid gathered [] s.left (append-nil s.left) gathers stored _ _ t
    (goes_on terms effects mid t _ later now)
goes_on terms (NotTaken what (fault.NotWritten why) ∷ effects) s t gathered (mid, does, later) half =
    absurd does
goes_on terms (GatheredLines ∷ effects) s t gathered (mid, does, later) half =
    let book : mid.hub.book.length ≡ s.hub.book.length + 0 =
    ap (λ (u : DispatcherState). u.book.length) does.hub ∙ omega arith in
    let written : mid.hub.open_wires.written ≡ s.hub.open_wires.written =
    ap (λ (u : DispatcherState). u.open_wires.written) does.hub in
    let now = half_on s mid gathered [] s.left (append-nil s.left) does.gathers does.stored book
    (omega (arith, written, half.told, does.stored)) half in
    pass_on s mid gathered [] s.left (append-nil s.left) does.gathers does.stored _ _ t
    (goes_on terms effects mid t _ later now)
goes_on terms (StoredLines bytes entries ∷ effects) s t gathered (mid, does, later) half =
    let book : mid.hub.book.length ≡ s.hub.book.length =
    ap (λ (u : DispatcherState). u.book.length) does.writes.hub in
    let written : mid.hub.open_wires.written ≡ s.hub.open_wires.written =
    ap (λ (u : DispatcherState). u.open_wires.written) does.writes.hub in
    let count : mid.stored ≡ mid.hub.book.length - length mid.left = does.stored ∙ does.entries_are in
    let now = half_stored s mid gathered bytes does.writes.gathers does.gone book count half written in
    pass_stored s mid gathered bytes does.writes.gathers does.gone book count half _ _ t
    (goes_on terms effects mid t [] later now)
goes_on terms (Looked ∷ effects) s t gathered (mid, does, later) half =
    let gathers : GathersFront s.left s.lines mid.left mid.lines = record {
      front = [];
      parts = sym does.left;
      gathered = does.lines ∙ sym (append-nil s.lines);
    } in
    let book : mid.hub.book.length ≡ s.hub.book.length + 0 =
    ap (λ (u : DispatcherState). u.book.length) does.hub ∙ omega arith in
    let written : mid.hub.open_wires.written ≡ s.hub.open_wires.written =
    ap (λ (u : DispatcherState). u.open_wires.written) does.hub in
    let now = half_on s mid gathered [] s.left (append-nil s.left) gathers does.stored book
    (omega (arith, written, half.told, does.stored)) half in
    pass_on s mid gathered [] s.left (append-nil s.left) gathers does.stored _ _ t
    (goes_on terms effects mid t _ later now)

-- ---- the laws

begins_halfway : (s : EngineState) → BeginsStored s → IsHalfway s []
begins_halfway s begins =
    let none : length s.left ≡ 0 = ap length begins.all.left in
    record {
      lines = begins.all.lines;
      count = omega (arith, begins.stored, none);
      told = omega (arith, begins.stored, begins.told);
    }

pub told_is_stored : ToldIsStored
told_is_stored terms effects s t runs begins =
    let on = goes_on terms effects s t [] runs (begins_halfway s begins) in
    record {
      front = on.front;
      behind = on.behind;
      parts = ap (λ (l : List Entry). l ++ made_in (answers_in effects)) (sym begins.all.left) ∙ on.parts;
      lines = on.lines;
      count = on.count ∙ ap (λ (n : ℕ). n + length on.front) begins.stored;
      told = on.told;
    }

left_stored : (written stored : ℕ) (past : Past) (wire : Traffic) → written ≤ stored
    → IsPast written past wire → LeavesStored stored past wire
left_stored written stored past wire told has = record {
  left = has.left;
  sent = has.sent;
  front = has.history.front;
  parts = has.history.frees.parts;
  rests = All-weaker (λ (b : AnswerByte). b.rests_on ≤ written) (λ (b : AnswerByte). b.rests_on ≤ stored)
      (λ b free. omega (arith, free, told)) has.history.front has.history.frees.free;
  leaves = has.history.leaves;
}

pub left_is_stored : LeftIsStored
left_is_stored terms effects s t a limits runs begins moment is run n past has public =
    let made = made_in (answers_in effects) in
    let events = run_effects true terms (answers_in effects) s.hub t.hub run in
    let stored = told_is_stored terms effects s t runs begins in
    let hub = hubs_are_runs true terms (answers_in effects) s.hub t.hub run in
    let leads = events_lead terms events s.hub t.hub a limits hub.does moment is in
    record {
      after = leads.after;
      adds = subst (λ (l : List Entry). AddsEntries a l leads.after) (sym hub.made_is) leads.adds;
      public = handed_out terms events s.hub t.hub a leads.after limits hub.does moment is leads.adds n past
          public;
      leaves = λ wire there. left_stored t.hub.open_wires.written t.stored _ wire stored.told
          (hub.pasts n past has wire there);
    }
