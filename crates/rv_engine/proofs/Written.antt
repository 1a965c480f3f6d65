-- Lines that are written after a gathering.
use Rattle.std.proofs.Common.{◌≡◌, ◌∙◌, ◌-◌, ℕ, List, [], ap, append-nil, arith, length, refl, subst}
use Rattle.std.proofs.Common.{drop, sym}
use Rattle.std.proofs.lemmas.List.{length-drop}
use Rattle.rv_account.specs.declared.entry.Entry.{Entry}
use Rattle.rv_hub.specs.dispatcher.View.{DispatcherState}
use Rattle.rv_engine.specs.Engines.{EngineState}
use Rattle.rv_engine.specs.Handing.{Gathers, GathersFront, StoresLines, all_gone, gathered_count, lines_gone}
use Rattle.rv_engine.specs.Handing.{unwritten}
use Rattle.rv_engine.proofs.Gathered.{none_left}

-- all lines were gathered, and are stored
pub gone_is : (old mid : EngineState) → Gathers old mid → mid.left ≡ [] → lines_gone mid ≡ all_gone old
gone_is old mid gathers none =
    let at_hub : mid.hub.book.length ≡ old.hub.book.length = ap (λ (x : DispatcherState). x.book.length)
    gathers.hub
    in
    let zero_left : length mid.left ≡ 0 = ap length none in
    let count : gathered_count mid ≡ old.hub.book.length = omega (arith, at_hub, zero_left) in
    ap (λ (x : DispatcherState). record mid { hub = x; lines = []; stored = gathered_count mid }) gathers.hub
    ∙ ap (λ (x : ℕ). record mid { hub = old.hub; lines = []; stored = x }) count
    ∙ ap (λ (x : List Entry). record (all_gone old) {
      left = x;
      looks = mid.looks;
      round = mid.round;
      room = mid.room;
    }) none
    ∙ ap (λ (x : List ℕ). record (all_gone old) { looks = x; round = mid.round; room = mid.room })
    gathers.looks.looks
    ∙ ap (λ (x : List ℕ). record (all_gone old) { round = x; room = mid.room }) gathers.looks.round
    ∙ ap (λ (x : ℕ). record (all_gone old) { room = x }) gathers.looks.room

pub all_lines : (old mid : EngineState) → Gathers old mid → mid.left ≡ [] → mid.lines ≡ unwritten old
all_lines old mid gathers none = none_left old.left mid.left old.lines mid.lines gathers.gathers none

-- those that were gathered are stored
pub stores_some : (old mid : EngineState) → Gathers old mid
    → StoresLines old mid.lines (gathered_count mid) (lines_gone mid)
stores_some old mid gathers = record {
  writes = record {
    gathers = subst (λ (l : List ℕ). GathersFront old.left old.lines mid.left l) (sym (append-nil mid.lines))
        gathers.gathers;
    hub = gathers.hub;
    looks = record {
      looks = gathers.looks.looks;
      round = gathers.looks.round;
      room = gathers.looks.room;
    };
  };
  gone = refl;
  entries_are = refl;
  stored = refl;
}

-- where none is left, as many are stored as there are
pub all_stored : (s : EngineState) (new : EngineState) → new ≡ lines_gone s → new.left ≡ []
    → new.stored ≡ new.hub.book.length
all_stored s new is none =
    let stored : new.stored ≡ gathered_count s = ap (λ (x : EngineState). x.stored) is in
    let at_hub : new.hub.book.length ≡ s.hub.book.length =
    ap (λ (x : EngineState). x.hub.book.length) is in
    let same : length new.left ≡ length s.left = ap (λ (x : EngineState). length x.left) is in
    let zero_left : length new.left ≡ 0 = ap length none in
    omega (arith, stored, at_hub, same, zero_left)

-- so many entries have their line gathered or stored, where so many of the event's have
pub count_is : (length_all gathered : ℕ) (entries : List Entry)
    → length_all - (length entries - gathered) ≡ length_all - length (drop gathered entries)
count_is length_all gathered entries =
    ap (λ (n : ℕ). length_all - n) (sym (length-drop gathered entries))
