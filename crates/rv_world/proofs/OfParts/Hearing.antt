-- What a process makes of an answer, and what the world then is.
use Rattle.rv_world.proofs.OfParts.Words.{◌≡◌, ◌∷◌, ◌++◌, ◌∙◌, ℕ, Bool, false, List, [], Option, Some, None}
use Rattle.rv_world.proofs.OfParts.Words.{option_map, sym, ap, subst, slice_get, Key, Answer, Reply, Process}
use Rattle.rv_world.proofs.OfParts.Words.{New, Idle, Outstanding, Hears, Outcome, Welcomed, TurnedAway}
use Rattle.rv_world.proofs.OfParts.Words.{Settled, EpochEnded, Replaced, Ignored, Packet, Seen, World}
use Rattle.rv_world.proofs.OfParts.Words.{process_of, OnlyChangesProcess, ChangesProcess, WorldBecomes}
use Rattle.rv_world.proofs.OfParts.Words.{ComesTo, process_in, HearsAs, ClientTable, running_of, with_process}
use Rattle.std.specs.Prelude.{is_some, not}
use Rattle.rv_world.specs.declared.parts.process.HeardAnswer.{HeardAnswer}
use Rattle.rv_world.specs.parts.Events.{IsAwaited, IsHeard}
use Rattle.rv_world.specs.parts.Processes.{LeavesBy}
use Rattle.rv_world.proofs.OfParts.TableWrites.{only_turns, runs_stands, turned_back}

-- the replies that are held when this one is, if any is
abbrev pub held_after : List (Key × Reply) → Option (Key × Reply) → List (Key × Reply)
held_after held None = held
held_after held (Some taken) = held ++ taken ∷ []

-- an ignored answer leaves the process
pub ignored_same : (process : Process) (answer : Answer) (same : Process)
    → Hears process answer (Ignored same) → same ≡ process
ignored_same (New starting) answer same hears = hears.1
ignored_same (Idle next) answer same hears = hears
ignored_same (Outstanding asking) answer same hears = hears.1

module _ (w v : World) (old new : ClientTable) (client : ℕ) (answer : Answer) (told : HeardAnswer) (before :
    w.clients ≡ old.processes) (after : v.clients ≡ new.processes)
    (turned : new ≡ with_process old client (option_map process_in told.process))
    (rest : v ≡ record w { clients = v.clients; held = held_after w.held told.held }) (process : Process)
    (runs : running_of old client ≡ Some process) where
  turns_to : (then : Option Process) → option_map process_in told.process ≡ then
      → OnlyChangesProcess w v client then
  turns_to then is = only_turns w v old new client then before after
      (turned ∙ ap (λ (p : Option Process). with_process old client p) is) (runs_stands old client process
      runs)

  rests : (held : Option (Key × Reply)) → told.held ≡ held
      → v ≡ record w { clients = v.clients; held = held_after w.held held }
  rests held is = rest ∙ ap (λ (h : Option (Key × Reply)). record w {
    clients = v.clients;
    held =
        held_after w.held h;
  }) is

  only_that : (then : Option Process) → option_map process_in told.process ≡ then → told.held ≡ None
      → ChangesProcess w client then v
  only_that then is none = record { changes = turns_to then is; rest = rests None none }

  nothing : option_map process_in told.process ≡ Some process → told.held ≡ None → v ≡ w
  nothing is none =
      let back : v.clients ≡ w.clients = after ∙ ap (λ (t : ClientTable). t.processes)
      (turned ∙ ap (λ (p : Option Process). with_process old client p) is ∙ turned_back old client process
      runs) ∙ sym before in
      rests None none ∙ ap (λ (l : List (ℕ × Option Process)). record w { clients = l }) back

  pub becomes : (outcome : Outcome) → Hears process answer outcome → LeavesBy answer outcome told
      → WorldBecomes w client answer outcome v told.seen
  becomes (Welcomed next) hears leaves = (only_that _ leaves.process leaves.holds, leaves.shows)
  becomes (TurnedAway same refusal) hears leaves = (only_that _ leaves.process leaves.holds, leaves.shows)
  becomes (Settled next reply) hears leaves = record {
    key = leaves.0;
    settles = leaves.1;
    changes = turns_to _ leaves.2.process;
    rest = rests _ leaves.2.holds;
    shown = leaves.2.shows;
  }
  becomes (EpochEnded key current) hears leaves = (only_that _ leaves.process leaves.holds, leaves.shows)
  becomes (Replaced key current) hears leaves = (only_that _ leaves.process leaves.holds, leaves.shows)
  becomes (Ignored same) hears leaves = (
    nothing (leaves.process ∙ ap (λ (p : Process). Some p) (ignored_same process answer same hears))
        leaves.holds,
    leaves.shows,
  )

  pub heard : HearsAs process answer told → IsHeard w process (record { client = client; answer = answer }) v
      told.seen
  heard hears = record {
    outcome = hears.outcome;
    hears = hears.hears;
    becomes = becomes hears.outcome
        hears.hears hears.leaves;
  }

-- ---- an answer that comes to a process that runs

runs_some : {X : Type 0} (read : X → Process) (found : Option X) (runs : Option Process) (is_none : Bool)
    → option_map read found ≡ runs → is_some found ≡ not is_none → is_none ≡ false
    → (running : Process) × (runs ≡ Some running)
runs_some read None runs is_none is some runs_so = absurd (let none : ⊥ = cc in none)
runs_some read (Some x) runs is_none is some runs_so = (read x, sym is)

-- an answer that was sent to it is awaited
pub awaited : {X : Type 0} (read : X → Process) (w : World) (packet : ℕ) (sent : Packet) (found : Option X)
    (is_none : Bool)
    → slice_get w.to_client packet ≡ Some sent → option_map read found ≡ process_of w sent.client
    → is_some found ≡ not is_none → is_none ≡ false → IsAwaited w packet
awaited read w packet sent found is_none there is some runs_so =
    let runs = runs_some read found (process_of w sent.client) is_none is some runs_so in
    record { sent = sent; there = there; process = runs.0; runs = runs.1 }

-- what was sent comes to it by a copy of the answer, with room for one more that is held
pub comes_heard : {X : Type 0} (read : X → Process) (w : World) (kept : List (Key × Reply)) (sent : Packet)
    (answer : Answer) (v : World) (shows : Seen) (found : Option X) (is_none : Bool)
    → option_map read found ≡ process_of w sent.client → is_some found ≡ not is_none → is_none ≡ false
    → kept ≡ w.held → answer ≡ sent.answer
    → ((running : Process) → process_of w sent.client ≡ Some running → IsHeard (record w { held = kept })
    running (record { client = sent.client; answer = answer }) v shows)
    → ComesTo (process_of w sent.client) w sent v shows
comes_heard read w kept sent answer v shows found is_none is some runs_so held copied hears =
    let runs = runs_some read found (process_of w sent.client) is_none is some runs_so in
    let by_copy = subst (λ (l : List (Key × Reply)). IsHeard (record w { held = l }) runs.0
    (record { client = sent.client; answer = answer }) v shows) held (hears runs.0 runs.1) in
    subst (λ (o : Option Process). ComesTo o w sent v shows) (sym runs.1)
    (subst (λ (x : Answer). IsHeard w runs.0 (record { client = sent.client; answer = x }) v shows) copied
    by_copy)
