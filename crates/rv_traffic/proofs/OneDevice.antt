-- Runs over one device, one after another.
use Rattle.std.proofs.Common.{◌∷◌, ◌≡◌, ◌∙◌, ◌++◌, ℕ, Bool, List, [], None, Option, Some, ap, append-nil}
use Rattle.std.proofs.Common.{append_assoc, drop, false, inl, inr, refl, subst, sym, take, true, ◌⊎◌}
use Rattle.std.proofs.KnownBytes.{Appends-trans}
use Rattle.std.proofs.lemmas.Bool.{false≢true}
use Rattle.std.proofs.lemmas.List.{take-append-drop}
use Rattle.std.specs.Io.KnownBytes.{Appends}
use Rattle.std.specs.Prelude.{Err, IfErr, IfOk, Ok, OnOk, Result}
use Rattle.rv_account.specs.declared.entry.Entry.{Entry}
use Rattle.rv_hub.specs.dispatcher.View.{DispatcherTerms}
use Rattle.rv_frame.specs.Lasting.{LastingDevice, TakesBytes}
use Rattle.rv_engine.specs.declared.events.EngineFault.{EngineFault}
use Rattle.rv_engine.specs.declared.events.EngineFault.TheVariants as fault
use Rattle.rv_engine.specs.Engines.{EngineState, engine_state}
use Rattle.rv_engine.specs.EngineRuns.{StoredLines, answers_in, bytes_written}
use Rattle.rv_engine.specs.Handing.{GathersFront, HasWorked, IsNotTold, TellsWritten, all_gone, entries_kept}
use Rattle.rv_engine.specs.Handing.{entry_lines, unwritten}
use Rattle.rv_engine.proofs.Gathered.{lines_append}
use Rattle.rv_engine.proofs.Running.{engines_are_runs}
use Rattle.rv_hub.specs.HubRuns.{made_in}
use Rattle.rv_hub.specs.Hubs.{hub_terms}
use Rattle.rv_traffic.specs.declared.traffic.Switchboard.{Switchboard}
use Rattle.rv_traffic.specs.CallRuns.{OnlyCalls, OthersAreOver, OversAreJoined, RunsBehind, RunsOver}
use Rattle.rv_traffic.specs.CallRuns.{RunsWith, UnwrittenLinesAreOver, WrittenLinesAreOver}
use Rattle.rv_traffic.proofs.CallsRun.{calls_join, gatherings_run, runs_join, written_lines_run}

appends_none : (known : Option (List ℕ)) → Appends known known []
appends_none None = tt
appends_none (Some bytes) = sym (append-nil bytes)

not_both : (b : Bool) → b ≡ true → b ≡ false → ⊥
not_both b is not = false≢true (sym not ∙ is)

either : (b : Bool) → (b ≡ true) ⊎ (b ≡ false)
either true = inl refl
either false = inr refl

-- where no line was written, what wasn't is the front of what isn't
unwritten_grows : (journal : Bool) (terms : DispatcherTerms) (s t : EngineState)
    → RunsBehind journal terms s [] t
    → (more : List ℕ) × (unwritten t ≡ unwritten s ++ more)
unwritten_grows journal terms s t run =
    (entry_lines made, front_lines (engines_are_runs journal terms run.effects s t run.runs).account)
  where
    made : List Entry
    made = entries_kept journal (made_in (answers_in run.effects))

    front_lines : GathersFront (s.left ++ made) s.lines t.left (bytes_written run.effects ++ t.lines)
        → unwritten t ≡ unwritten s ++ entry_lines made
    front_lines gathers =
        ap (λ (l : List ℕ). (l ++ t.lines) ++ entry_lines t.left) (sym run.bytes_are)
        ∙ ap (λ (l : List ℕ). l ++ entry_lines t.left) gathers.gathered
        ∙ append_assoc s.lines (entry_lines gathers.front) (entry_lines t.left)
        ∙ ap (λ (l : List ℕ). s.lines ++ l) (sym (lines_append gathers.front t.left))
        ∙ ap (λ (l : List Entry). s.lines ++ entry_lines l) (sym gathers.parts)
        ∙ ap (λ (l : List ℕ). s.lines ++ l) (lines_append s.left made)
        ∙ sym (append_assoc s.lines (entry_lines s.left) (entry_lines made))

module _ {L : Type 0} (lasts : LastingDevice L) where
  pub others_over : OthersAreOver lasts
  others_over journal terms s t device run = record {
    bytes = [];
    runs = run;
    torn = [];
    more = unwritten t;
    torn_is = refl;
    takes = appends_none (lasts.contents device);
    whole = λ works. refl;
    stays = λ failed. (refl, refl, failed);
  }

  -- ---- joined

  module _ (journal : Bool) (terms : DispatcherTerms) (s t u : EngineState) (before between after : L)
      (first : RunsOver lasts journal terms s before t between)
      (second : RunsOver lasts journal terms t between u after) where
    both_take : TakesBytes lasts before after ((first.bytes ++ first.torn) ++ (second.bytes ++ second.torn))
    both_take =
        Appends-trans (lasts.contents before) (lasts.contents between)
        (lasts.contents after) (first.bytes ++ first.torn) (second.bytes ++ second.torn) first.takes
        second.takes

    both_run : RunsBehind journal terms s (first.bytes ++ second.bytes) u
    both_run = runs_join journal terms s t u first.bytes second.bytes first.runs second.runs

    stays_failed : lasts.failed before ≡ true → (first.bytes ++ second.bytes ≡ []) × (first.torn ≡ [])
        × (second.torn ≡ []) × (lasts.failed after ≡ true)
    stays_failed failed =
        let one = first.stays failed in
        let other = second.stays one.2 in
        (ap (λ (l : List ℕ). l ++ second.bytes) one.0 ∙ other.0, one.1, other.1, other.2)

    -- the device failed in the first
    failed_first : lasts.failed between ≡ true → RunsOver lasts journal terms s before u after
    failed_first failed =
        let none = second.stays failed in
        let grows = unwritten_grows journal terms t u
        (subst (λ (l : List ℕ). RunsBehind journal terms t l u) none.0 second.runs) in
        record {
          bytes = first.bytes ++ second.bytes;
          runs = both_run;
          torn = first.torn;
          more = first.more ++ grows.0;
          torn_is = grows.1 ∙ ap (λ (l : List ℕ). l ++ grows.0) first.torn_is
              ∙ append_assoc first.torn first.more grows.0;
          takes = subst (λ (l : List ℕ). TakesBytes lasts before after l)
              (ap (λ (l : List ℕ). (first.bytes ++ first.torn) ++ (l ++ second.torn)) none.0
              ∙ ap (λ (l : List ℕ). (first.bytes ++ first.torn) ++ l) none.1
              ∙ append-nil (first.bytes ++ first.torn)
              ∙ ap (λ (l : List ℕ). l ++ first.torn) (sym (append-nil first.bytes))
              ∙ ap (λ (l : List ℕ). (first.bytes ++ l) ++ first.torn) (sym none.0)) both_take;
          whole = λ works. absurd (not_both (lasts.failed after) none.2 works);
          stays = λ before_failed.
              let all = stays_failed before_failed in
              (all.0, all.1, all.3);
        }

    -- or it hadn't yet
    works_first : lasts.failed between ≡ false → RunsOver lasts journal terms s before u after
    works_first works =
        let none = first.whole works in
        record {
          bytes = first.bytes ++ second.bytes;
          runs = both_run;
          torn = second.torn;
          more = second.more;
          torn_is = second.torn_is;
          takes = subst (λ (l : List ℕ). TakesBytes lasts before after l)
              (ap (λ (l : List ℕ). (first.bytes ++ l) ++ (second.bytes ++ second.torn)) none
              ∙ ap (λ (l : List ℕ). l ++ (second.bytes ++ second.torn)) (append-nil first.bytes)
              ∙ sym (append_assoc first.bytes second.bytes second.torn)) both_take;
          whole = second.whole;
          stays = λ before_failed.
              let all = stays_failed before_failed in
              (all.0, all.2, all.3);
        }

  pub overs_join : OversAreJoined lasts
  overs_join journal terms s t u before between after first second =
      elim (either (lasts.failed between)) [
        | inl failed ↦ failed_first journal terms s t u before between after first second failed
        | inr works ↦ works_first journal terms s t u before between after first second works
      ]

  -- ---- lines of the account

  pub written_over : WrittenLinesAreOver lasts
  written_over journal terms s t before after now made told takes works is = record {
    bytes = unwritten s;
    runs = written_lines_run journal terms s t now made told is;
    torn = [];
    more = unwritten t;
    torn_is = refl;
    takes = subst (λ (l : List ℕ). TakesBytes lasts before after l) (sym (append-nil (unwritten s))) takes;
    whole = λ none. refl;
    stays = λ failed. absurd (not_both (lasts.failed before) failed works.worked);
  }

  pub unwritten_over : UnwrittenLinesAreOver lasts
  unwritten_over journal terms s t before after (fault.NotWritten why) is = record {
    bytes = [];
    runs = gatherings_run journal terms s t is.gathers;
    torn = take why.sent t.lines;
    more = drop why.sent t.lines ++ entry_lines t.left;
    torn_is = ap (λ (l : List ℕ). l ++ entry_lines t.left) (sym (take-append-drop why.sent t.lines))
        ∙ append_assoc (take why.sent t.lines) (drop why.sent t.lines) (entry_lines t.left);
    takes = is.takes;
    whole = λ works. absurd (not_both (lasts.failed after) is.failed works);
    stays = λ failed. (refl, ap (λ (n : ℕ). take n t.lines) (is.refused failed), is.failed);
  }
  unwritten_over journal terms s t before after fault.NoMemory is = record {
    bytes = is.bytes;
    runs = record {
      effects = StoredLines is.bytes _ ∷ [];
      runs = (t, is.stores, refl);
      bytes_are = append-nil is.bytes;
    };
    torn = [];
    more = unwritten t;
    torn_is = refl;
    takes = subst (λ (l : List ℕ). TakesBytes lasts before after l) (sym (append-nil is.bytes)) is.takes;
    whole = λ works. refl;
    stays = λ failed. absurd (not_both (lasts.failed before) failed is.works.worked);
  }
  unwritten_over journal terms s t before after (fault.Refused why) is = absurd is

  -- whichever it is
  pub write_over : (journal : Bool) (terms : DispatcherTerms) (s t : EngineState) (before after : L)
      (now : ℕ)
      (made : List Entry) (result : Result (Option ℕ) EngineFault)
      → OnOk result (TakesBytes lasts before after (unwritten s)) → OnOk result (HasWorked lasts before after)
      → IfOk result (λ told. TellsWritten journal terms (all_gone s) now made told t)
      → IfErr result (λ why. IsNotTold lasts s before why t after)
      → RunsOver lasts journal terms s before t after
  write_over journal terms s t before after now made (Ok told) takes works tells not_told =
      written_over journal terms s t before after now made told takes works tells
  write_over journal terms s t before after now made (Err why) takes works tells not_told =
      unwritten_over journal terms s t before after why not_told

  -- ---- behind sockets

  pub calls_with : {S : Type 0} (old new : Switchboard S) (device : Option L) → OnlyCalls old new
      → RunsWith lasts old device new device
  calls_with old new None is = is
  calls_with old new (Some device) is = record {
    terms = is.terms;
    over = others_over old.engine.hub.has_journal (hub_terms old.engine.hub) (engine_state old.engine)
        (engine_state new.engine) device is.runs;
  }

  pub with_join : {S : Type 0} (one between other : Switchboard S) (x y z : Option L)
      → RunsWith lasts one x between y → RunsWith lasts between y other z
      → RunsWith lasts one x other z
  with_join one between other None None None first second = calls_join one between other first second
  with_join one between other None None (Some after) first second = absurd second
  with_join one between other None (Some device) z first second = absurd first
  with_join one between other (Some before) None z first second = absurd first
  with_join one between other (Some before) (Some device) None first second = absurd second
  with_join one between other (Some before) (Some device) (Some after) first second = record {
    terms = record {
      terms = second.terms.terms ∙ first.terms.terms;
      journal = second.terms.journal ∙ first.terms.journal;
    };
    over = overs_join one.engine.hub.has_journal (hub_terms one.engine.hub) (engine_state one.engine)
        (engine_state between.engine) (engine_state other.engine) before device after first.over
        (subst (λ (b : Bool). RunsOver lasts b (hub_terms one.engine.hub) (engine_state between.engine)
        device
        (engine_state other.engine) after) first.terms.journal
        (subst (λ (d : DispatcherTerms). RunsOver lasts between.engine.hub.has_journal d
        (engine_state between.engine) device (engine_state other.engine) after) first.terms.terms
        second.over));
  }
