-- A call is a run of the engine, and so are calls one after another.
use Rattle.std.proofs.Common.{ℕ, ◌≡◌, ◌∷◌, ◌++◌, ◌∙◌, Bool, List, [], None, Option, Some, ap, append-nil}
use Rattle.std.proofs.Common.{append_assoc, arith, false, inl}
use Rattle.std.proofs.Common.{inr, refl, subst, sym, true}
use Rattle.rv_hub.specs.dispatcher.View.{DispatcherTerms}
use Rattle.rv_hub.specs.declared.events.HubEvent.{HubEvent}
use Rattle.rv_engine.specs.Engines.{EngineState, engine_state}
use Rattle.rv_engine.specs.EngineRuns.{EngineEffect, GatheredLines, HandedOn, Looked, NotTaken}
use Rattle.rv_engine.specs.EngineRuns.{RunsEngine, StoredLines, bytes_written}
use Rattle.rv_engine.specs.Handing.{TellsWritten, all_gone, unwritten}
use Rattle.rv_traffic.specs.declared.outcomes.Reading.{Reading}
use Rattle.rv_traffic.specs.declared.outcomes.Reading.TheVariants as reading
use Rattle.rv_traffic.specs.declared.outcomes.Writing.{Writing}
use Rattle.rv_traffic.specs.declared.outcomes.Writing.TheVariants as writing
use Rattle.rv_hub.specs.Hubs.{hub_terms}
use Rattle.rv_traffic.specs.declared.traffic.Switchboard.{Switchboard}
use Rattle.rv_traffic.specs.Calls.{Attaches, Hands, LosesBytes, OffersOne, ReadsOne, WritesOne}
use Rattle.rv_traffic.specs.CallRuns.{EndsAreRuns, EventsAreRuns, GatheringsAreRuns, OnlyCalls}
use Rattle.rv_traffic.specs.CallRuns.{LooksAreRuns, ReadRoundsAreRuns, RefusalsAreRuns, RunsAreJoined}
use Rattle.rv_traffic.specs.CallRuns.{RunsBehind, SharesAreRuns, WriteRoundsAreRuns}
use Rattle.rv_traffic.specs.CallRuns.{WrittenLinesAreRuns}
use Rattle.rv_traffic.specs.Rounds.{DoesIfReady, DoesWhere, LooksAgain, LooksForMore, ReadsTurn, TakesTurns}
use Rattle.rv_traffic.specs.Rounds.{SharesTurn, TakesShares, MakesTurn, Turn, WaitsForMore, WritesTurn}
use Rattle.rv_traffic.specs.Rounds.{round_begun}
use Rattle.rv_traffic.specs.Views.{TrafficState}

-- ---- one call

hands_run : (journal : Bool) (terms : DispatcherTerms) (s : EngineState) (now : ℕ) (what : HubEvent) (given :
    ℕ)
    (t : EngineState) → Hands journal terms s now what given t → RunsBehind journal terms s [] t
hands_run journal terms s now what given t is = record {
  effects = HandedOn now what is.made given ∷ [];
  runs = (t, is.hands, refl);
  bytes_are = refl;
}

pub events_run : EventsAreRuns
events_run journal terms s t now what made given is = record {
  effects = HandedOn now what made given ∷ [];
  runs = (t, is, refl);
  bytes_are = refl;
}

pub refusals_run : RefusalsAreRuns
refusals_run journal terms s t what why is = record {
  effects = NotTaken what why ∷ [];
  runs = (t, is, refl);
  bytes_are = refl;
}

pub looks_run : LooksAreRuns
looks_run journal terms s t is = record { effects = Looked ∷ []; runs = (t, is, refl); bytes_are = refl }

pub gatherings_run : GatheringsAreRuns
gatherings_run journal terms s t is = record {
  effects = GatheredLines ∷ [];
  runs = (t, is, refl);
  bytes_are = refl;
}

same_but_looks : (journal : Bool) (terms : DispatcherTerms) (s : EngineState) (looks round : List ℕ)
    → RunsBehind journal terms s [] (record s { looks = looks; round = round })
same_but_looks journal terms s looks round =
    looks_run journal terms s (record s { looks = looks; round = round })
    (record { hub = refl; lines = refl; left = refl; stored = refl })

none_run : (journal : Bool) (terms : DispatcherTerms) (s t : EngineState) → t ≡ s
    → RunsBehind journal terms s [] t
none_run journal terms s t same = record { effects = []; runs = same; bytes_are = refl }

-- ---- one after another

runs_then : (journal : Bool) (terms : DispatcherTerms) (first second : List EngineEffect) (s t u :
    EngineState)
    → RunsEngine journal terms s first t → RunsEngine journal terms t second u
    → RunsEngine journal terms s (first ++ second) u
runs_then journal terms [] second s t u same later =
    subst (λ (e : EngineState). RunsEngine journal terms e second u) same later
runs_then journal terms (effect ∷ first) second s t u (between, does, more) later =
    (between, does, runs_then journal terms first second between t u more later)

written_then : (first second : List EngineEffect)
    → bytes_written (first ++ second) ≡ bytes_written first ++ bytes_written second
written_then [] second = refl
written_then (HandedOn handed what made given ∷ first) second = written_then first second
written_then (NotTaken what why ∷ first) second = written_then first second
written_then (GatheredLines ∷ first) second = written_then first second
written_then (StoredLines bytes entries ∷ first) second =
    ap (λ (l : List ℕ). bytes ++ l) (written_then first second)
    ∙ sym (append_assoc bytes (bytes_written first) (bytes_written second))
written_then (Looked ∷ first) second = written_then first second

pub runs_join : RunsAreJoined
runs_join journal terms s t u one other first second = record {
  effects = first.effects ++ second.effects;
  runs = runs_then journal terms first.effects second.effects s t u first.runs second.runs;
  bytes_are = written_then first.effects second.effects
      ∙ ap (λ (l : List ℕ). l ++ bytes_written second.effects) first.bytes_are
      ∙ ap (λ (l : List ℕ). one ++ l) second.bytes_are;
}

-- where no line was written
runs_on : (journal : Bool) (terms : DispatcherTerms) (s t u : EngineState) → RunsBehind journal terms s [] t
    → RunsBehind journal terms t [] u → RunsBehind journal terms s [] u
runs_on journal terms s t u first second = runs_join journal terms s t u [] [] first second

pub gone_run : EndsAreRuns
gone_run journal terms s t now n (inl told) = hands_run journal terms s now _ told.0 t told.1
gone_run journal terms s t now n (inr later) =
    runs_on journal terms s later.mid t (gatherings_run journal terms s later.mid later.gathers)
    (looks_run journal terms later.mid t (record {
      hub = later.hub;
      lines = later.lines;
      left = later.left;
      stored = later.stored;
    }))

-- ---- lines of the account

-- all lines are written where none was left before
all_written : (journal : Bool) (terms : DispatcherTerms) (s : EngineState)
    → RunsBehind journal terms s (unwritten s) (all_gone s)
all_written journal terms s = record {
  effects = StoredLines (unwritten s) s.hub.book.length ∷ [];
  runs = (
    all_gone s,
    record {
      writes = record {
        gathers = record {
          front = s.left;
          parts = sym (append-nil s.left);
          gathered = append-nil (unwritten s);
        };
        hub = refl;
        looks = record { looks = refl; round = refl; room = refl };
      };
      gone = refl;
      entries_are = omega arith;
      stored = refl;
    },
    refl,
  );
  bytes_are = append-nil (unwritten s);
}

pub written_lines_run : WrittenLinesAreRuns
written_lines_run journal terms s t now made told is =
    subst (λ (l : List ℕ). RunsBehind journal terms s l t) (append-nil (unwritten s))
    (runs_join journal terms s (all_gone s) t (unwritten s) [] (all_written journal terms s)
    (tells_run told is))
  where
    tells_run : (told : Option ℕ) → TellsWritten journal terms (all_gone s) now made told t
        → RunsBehind journal terms (all_gone s) [] t
    tells_run None is = none_run journal terms (all_gone s) t is.1
    tells_run (Some given) is = events_run journal terms (all_gone s) t now _ made given is.1

-- ---- a turn

module _ {S : Type 0} (journal : Bool) (terms : DispatcherTerms) where
  loses_run : (now n : ℕ) (bytes : List ℕ) (old new : TrafficState S)
      → LosesBytes journal terms now n bytes old new → RunsBehind journal terms old.engine [] new.engine
  loses_run now n bytes old new (inl rest) =
      runs_on journal terms old.engine rest.between.engine new.engine
      (hands_run journal terms old.engine now rest.what rest.given rest.between.engine rest.hands)
      (gone_run journal terms rest.between.engine new.engine now n rest.gives_up.told)
  loses_run now n bytes old new (inr whole) =
      gone_run journal terms old.engine new.engine now n whole.gives_up.told

  reads_run : (remaining : S → Option (List ℕ)) (room now n : ℕ) (old : TrafficState S) (came : Reading)
      (new : TrafficState S) → ReadsOne remaining room journal terms now n old came new
      → RunsBehind journal terms old.engine [] new.engine
  reads_run remaining room now n old reading.Nothing new is =
      none_run journal terms old.engine new.engine is.engine
  reads_run remaining room now n old reading.Offered new (within, is) =
      hands_run journal terms old.engine now is.what is.given new.engine is.hands
  reads_run remaining room now n old reading.Kept new (within, is) =
      none_run journal terms old.engine new.engine is.engine
  reads_run remaining room now n old reading.Ended new (within, is) =
      hands_run journal terms old.engine now _ is.given new.engine is.hands
  reads_run remaining room now n old reading.Broken new (within, is) =
      gone_run journal terms old.engine new.engine now n is.gives_up.told
  reads_run remaining room now n old reading.NoMemory new (within, is) =
      loses_run now n is.bytes (record old { table = is.read }) new is.loses

  offers_run : (now n : ℕ) (old : TrafficState S) (came : Bool) (new : TrafficState S)
      → OffersOne journal terms now n old came new → RunsBehind journal terms old.engine [] new.engine
  offers_run now n old true new is =
      hands_run journal terms old.engine now is.what is.given new.engine is.hands
  offers_run now n old false new is = none_run journal terms old.engine new.engine is.engine

  writes_run : (contents : S → Option (List ℕ)) (now n : ℕ) (old : TrafficState S) (what : Writing)
      (new : TrafficState S) → WritesOne contents journal terms now n old what new
      → RunsBehind journal terms old.engine [] new.engine
  writes_run contents now n old writing.Nothing new is = none_run journal terms old.engine new.engine
      is.engine
  writes_run contents now n old writing.Sent new is =
      hands_run journal terms old.engine now _ is.given new.engine is.hands
  writes_run contents now n old writing.Closed new is = none_run journal terms old.engine new.engine is.engine
  writes_run contents now n old writing.Gone new (none, same, given, hands) =
      hands_run journal terms old.engine now _ given new.engine hands
  writes_run contents now n old writing.Broken new is =
      gone_run journal terms old.engine new.engine now n is.gives_up.told

  where_run : {A : Type 0} (does : TrafficState S → A → TrafficState S → Type 0)
      → ((s : TrafficState S) (a : A) (t : TrafficState S) → does s a t
      → RunsBehind journal terms s.engine [] t.engine)
      → (old : TrafficState S) (came : Option A) (new : TrafficState S) → DoesWhere does old came new
      → RunsBehind journal terms old.engine [] new.engine
  where_run does run old None new is =
      none_run journal terms old.engine new.engine (ap (λ (s : TrafficState S). s.engine) is.1)
  where_run does run old (Some a) new is = run old a new is.1

  ready_run : {A : Type 0} (does : TrafficState S → A → TrafficState S → Type 0)
      → ((s : TrafficState S) (a : A) (t : TrafficState S) → does s a t
      → RunsBehind journal terms s.engine [] t.engine)
      → (old : TrafficState S) (came : Option A) (new : TrafficState S) → DoesIfReady does old came new
      → RunsBehind journal terms old.engine [] new.engine
  ready_run does run old came new is =
      runs_on journal terms old.engine is.ready new.engine
      (gatherings_run journal terms old.engine is.ready is.gathers)
      (where_run does run (record old { engine = is.ready }) came new is.made)

  again_run : (old : TrafficState S) (n : ℕ) (new : TrafficState S) → LooksAgain old n new
      → RunsBehind journal terms old.engine [] new.engine
  again_run old n new is = looks_run journal terms old.engine new.engine is.same

  more_run : (what : Option Writing) (old : TrafficState S) (n : ℕ) (new : TrafficState S)
      → LooksForMore what old n new → RunsBehind journal terms old.engine [] new.engine
  more_run None old n new is = again_run old n new is
  more_run (Some what) old n new (inl (busy, is)) = again_run old n new is
  more_run (Some what) old n new (inr (rests, same)) =
      none_run journal terms old.engine new.engine (ap (λ (s : TrafficState S). s.engine) same)

  waits_run : (old : TrafficState S) (n : ℕ) (new : TrafficState S) → WaitsForMore old n new
      → RunsBehind journal terms old.engine [] new.engine
  waits_run old n new (inl (has, is)) = none_run journal terms old.engine new.engine is.engine
  waits_run old n new (inr (not, same)) =
      none_run journal terms old.engine new.engine (ap (λ (s : TrafficState S). s.engine) same)

  takes_run : {A : Type 0} (does : ℕ → TrafficState S → A → TrafficState S → Type 0)
      → ((n : ℕ) (s : TrafficState S) (a : A) (t : TrafficState S) → does n s a t
      → RunsBehind journal terms s.engine [] t.engine)
      → (old : TrafficState S) (turn : Turn A) (new : TrafficState S) → MakesTurn does old turn new
      → RunsBehind journal terms old.engine [] new.engine
  takes_run does run old turn new is =
      runs_on journal terms old.engine is.after.engine new.engine
      (ready_run (does turn.number) (run turn.number) old turn.came is.after is.made)
      (runs_on journal terms is.after.engine is.settles.between.engine new.engine
      (waits_run is.after turn.number is.settles.between is.settles.waits)
      (again_run is.settles.between turn.number new is.settles.again))

  read_turn_runs : (remaining : S → Option (List ℕ)) (room now : ℕ) (old : TrafficState S)
      (turn : Turn Reading) (new : TrafficState S) → ReadsTurn remaining room journal terms now old turn new
      → RunsBehind journal terms old.engine [] new.engine
  read_turn_runs remaining room now old turn new is =
      takes_run (λ (n : ℕ). ReadsOne remaining room journal terms now n) (reads_run remaining room now) old
      turn new is

  share_turn_runs : (now : ℕ) (old : TrafficState S) (turn : Turn Bool) (new : TrafficState S)
      → SharesTurn journal terms now old turn new → RunsBehind journal terms old.engine [] new.engine
  share_turn_runs now old turn new is =
      takes_run (λ (n : ℕ). OffersOne journal terms now n) (offers_run now) old turn new is

  write_turn_runs : (contents : S → Option (List ℕ)) (now : ℕ) (old : TrafficState S) (turn : Turn Writing)
      (new : TrafficState S) → WritesTurn contents journal terms now old turn new
      → RunsBehind journal terms old.engine [] new.engine
  write_turn_runs contents now old turn new is =
      runs_on journal terms old.engine is.after.engine new.engine
      (ready_run (WritesOne contents journal terms now turn.number) (writes_run contents now turn.number) old
      turn.came is.after is.writes) (runs_on journal terms is.after.engine is.between.engine new.engine
      (waits_run is.after turn.number is.between is.waits)
      (more_run turn.came is.between turn.number new is.again))

  -- ---- a round

  turns_run : {A : Type 0} (takes : TrafficState S → Turn A → TrafficState S → Type 0)
      → ((s : TrafficState S) (turn : Turn A) (t : TrafficState S) → takes s turn t
      → RunsBehind journal terms s.engine [] t.engine)
      → (turns : List (Turn A)) (old new : TrafficState S) → TakesTurns takes old turns new
      → RunsBehind journal terms old.engine [] new.engine
  turns_run takes run [] old new same =
      none_run journal terms old.engine new.engine (ap (λ (s : TrafficState S). s.engine) same)
  turns_run takes run (turn ∷ turns) old new (between, earlier, next) =
      runs_on journal terms old.engine between.engine new.engine
      (turns_run takes run turns old between earlier)
      (runs_on journal terms between.engine (record between.engine { round = next.round }) new.engine
      (same_but_looks journal terms between.engine between.engine.looks next.round)
      (run _ turn new next.taken))

  round_runs : {A : Type 0} (takes : TrafficState S → Turn A → TrafficState S → Type 0)
      → ((s : TrafficState S) (turn : Turn A) (t : TrafficState S) → takes s turn t
      → RunsBehind journal terms s.engine [] t.engine)
      → (turns : List (Turn A)) (old new : TrafficState S)
      → TakesTurns takes (round_begun old) turns new
      → RunsBehind journal terms old.engine [] new.engine
  round_runs takes run turns old new taken =
      runs_on journal terms old.engine
      (record old.engine { looks = old.engine.round; round = old.engine.looks }) new.engine
      (same_but_looks journal terms old.engine old.engine.round old.engine.looks)
      (turns_run takes run turns _ new taken)

  shares_run : (now : ℕ) (turns : List (Turn Bool)) (old new : TrafficState S)
      → TakesShares (SharesTurn journal terms now) old turns new
      → RunsBehind journal terms old.engine [] new.engine
  shares_run now [] old new same =
      none_run journal terms old.engine new.engine (ap (λ (s : TrafficState S). s.engine) same)
  shares_run now (turn ∷ turns) old new (between, earlier, next) =
      runs_on journal terms old.engine between.engine new.engine (shares_run now turns old between earlier)
      (share_turn_runs now _ turn new next.taken)

-- ---- the laws

pub read_rounds_run : {S : Type 0} (remaining : S → Option (List ℕ)) → ReadRoundsAreRuns remaining
read_rounds_run remaining journal terms room now old new faults is =
    round_runs journal terms _ (read_turn_runs journal terms remaining room now) is.turns old new
    is.round.taken

pub shared_run : {S : Type 0} → SharesAreRuns S
shared_run journal terms room now old new is = shares_run journal terms now is.turns _ new is.taken

pub write_rounds_run : {S : Type 0} (contents : S → Option (List ℕ)) → WriteRoundsAreRuns contents
write_rounds_run contents journal terms now old new broken is =
    round_runs journal terms _ (write_turn_runs journal terms contents now) is.turns old new is.round.taken

-- ---- sockets

pub attach_run : {S : Type 0} (journal : Bool) (terms : DispatcherTerms) (now n : ℕ) (stream : S)
    (old : TrafficState S) (result : Bool) (new : TrafficState S)
    → Attaches journal terms now n stream old result new → RunsBehind journal terms old.engine [] new.engine
attach_run journal terms now n stream old true new is =
    none_run journal terms old.engine new.engine is.engine
attach_run journal terms now n stream old false new is =
    gone_run journal terms old.engine new.engine now n is.gives_up.told

-- nothing was called
pub calls_none : {S : Type 0} (old : Switchboard S) → OnlyCalls old old
calls_none old = record {
  terms = record { terms = refl; journal = refl };
  runs = none_run old.engine.hub.has_journal (hub_terms old.engine.hub) (engine_state old.engine)
      (engine_state old.engine) refl;
}

pub calls_join : {S : Type 0} (one between other : Switchboard S) → OnlyCalls one between
    → OnlyCalls between other → OnlyCalls one other
calls_join one between other first second = record {
  terms = record {
    terms = second.terms.terms ∙ first.terms.terms;
    journal = second.terms.journal ∙ first.terms.journal;
  };
  runs = runs_on one.engine.hub.has_journal (hub_terms one.engine.hub) (engine_state one.engine)
      (engine_state between.engine) (engine_state other.engine) first.runs
      (subst (λ (b : Bool). RunsBehind b (hub_terms one.engine.hub) (engine_state between.engine) []
      (engine_state other.engine)) first.terms.journal
      (subst (λ (d : DispatcherTerms). RunsBehind between.engine.hub.has_journal d
      (engine_state between.engine) []
      (engine_state other.engine)) first.terms.terms second.runs));
}
