-- Calls of an engine, one after another.
use Rattle.std.proofs.Common.{◌≡◌, ◌+◌, ◌∙◌, ℕ, List, [], ◌∷◌, ◌++◌, Bool, true, ap, append-nil}
use Rattle.std.proofs.Common.{append_assoc, false}
use Rattle.std.proofs.Common.{arith, length, length-append, subst, sym}
use Rattle.std.specs.Prelude.{flat_map}
use Rattle.rv_account.specs.declared.entry.Entry.{Entry}
use Rattle.rv_account.specs.Account.{Account}
use Rattle.rv_book.specs.lines.Lines.{printed_lines}
use Rattle.rv_book.specs.lines.Written.{account_lines, head_text}
use Rattle.rv_hub.specs.dispatcher.View.{DispatcherState, DispatcherTerms}
use Rattle.rv_hub.specs.EventEffects.{all_effects, causes_of}
use Rattle.rv_hub.specs.HubRuns.{AddsEntries, HubAnswer, RunsHub, made_in, run_effects}
use Rattle.rv_hub.proofs.Accounts.{events_lead}
use Rattle.rv_hub.proofs.Longer.{counted_run}
use Rattle.rv_hub.proofs.OneRun.{hubs_are_runs}
use Rattle.rv_engine.specs.declared.events.EngineFault.TheVariants as fault
use Rattle.rv_engine.specs.Engines.{EngineState}
use Rattle.rv_engine.specs.Handing.{GathersFront, entries_kept, entry_lines}
use Rattle.rv_engine.specs.EngineRuns.{AccountsAreKept, EngineEffect, EnginesAreRuns}
use Rattle.rv_engine.specs.EngineRuns.{GatheredLines, HandedOn, Looked}
use Rattle.rv_engine.specs.EngineRuns.{HandsOnNext, IsAllWritten, NotTaken}
use Rattle.rv_engine.specs.EngineRuns.{RunsEngine}
use Rattle.rv_engine.specs.EngineRuns.{StoredLines, WrittenAreCounted, answers_in, bytes_written}
use Rattle.rv_engine.proofs.Gathered.{gathers_all, gathers_behind, gathers_shift, gathers_then, kept_append}
use Rattle.rv_engine.proofs.Gathered.{lines_append}

abbrev rest_of : Bool → List EngineEffect → List Entry
rest_of journal effects = entries_kept journal (made_in (answers_in effects))

pub engines_are_runs : EnginesAreRuns
engines_are_runs journal terms [] s t same = record {
  hub = ap (λ (x : EngineState). x.hub) same;
  account = record {
    front = [];
    parts = none journal s.left ∙ ap (λ (x : EngineState). x.left) (sym same);
    gathered = ap (λ (x : EngineState). x.lines) same ∙ sym (append-nil s.lines);
  };
}
  where
    none : (b : Bool) (left : List Entry) → left ++ entries_kept b [] ≡ left
    none true left = append-nil left
    none false left = append-nil left
engines_are_runs journal terms (HandedOn handed what made given ∷ effects) s t (between, does, later) =
    let more = engines_are_runs journal terms effects between t later in
    record {
      hub = (between.hub, does.takes, more.hub);
      account = subst (λ (l : List Entry). GathersFront l s.lines t.left (bytes_written effects ++ t.lines))
          (append_assoc s.left (entries_kept journal made) (rest_of journal effects)
          ∙ ap (λ (l : List Entry). s.left ++ l)
          (sym (kept_append journal made (made_in (answers_in effects)))))
          (gathers_then (s.left ++ entries_kept journal made) (rest_of journal effects) between.left t.left
          s.lines
          between.lines (bytes_written effects ++ t.lines)
          (gathers_behind s.left (entries_kept journal made) between.left s.lines between.lines does.gathers)
          more.account);
    }
engines_are_runs journal terms (NotTaken what (fault.Refused why) ∷ effects) s t (between, does, later) =
    let more = engines_are_runs journal terms effects between t later in
    record {
      hub = subst (λ (h : DispatcherState). RunsHub journal terms h (answers_in effects) t.hub) does.hub
          more.hub;
      account = gathers_then s.left (rest_of journal effects) between.left t.left s.lines between.lines
          (bytes_written effects ++ t.lines)
          (gathers_all s.left between.left s.lines between.lines does.left does.lines) more.account;
    }
engines_are_runs journal terms (NotTaken what fault.NoMemory ∷ effects) s t (between, does, later) =
    let more = engines_are_runs journal terms effects between t later in
    record {
      hub = subst (λ (h : DispatcherState). RunsHub journal terms h (answers_in effects) t.hub)
          does.gathers.hub
          more.hub;
      account = gathers_then s.left (rest_of journal effects) between.left t.left s.lines between.lines
          (bytes_written effects ++ t.lines) does.gathers.gathers more.account;
    }
engines_are_runs journal terms (NotTaken what (fault.NotWritten why) ∷ effects) s t (between, does, later) =
    absurd does
engines_are_runs journal terms (GatheredLines ∷ effects) s t (between, does, later) =
    let more = engines_are_runs journal terms effects between t later in
    record {
      hub = subst (λ (h : DispatcherState). RunsHub journal terms h (answers_in effects) t.hub) does.hub
          more.hub;
      account = gathers_then s.left (rest_of journal effects) between.left t.left s.lines between.lines
          (bytes_written effects ++ t.lines) does.gathers more.account;
    }
engines_are_runs journal terms (StoredLines bytes entries ∷ effects) s t (between, does, later) =
    let more = engines_are_runs journal terms effects between t later in
    record {
      hub = subst (λ (h : DispatcherState). RunsHub journal terms h (answers_in effects) t.hub)
          does.writes.hub
          more.hub;
      account = subst (λ (l : List ℕ). GathersFront (s.left ++ rest_of journal effects) s.lines t.left l)
          (sym (append_assoc bytes (bytes_written effects) t.lines))
          (gathers_then s.left (rest_of journal effects) between.left t.left s.lines (bytes ++ between.lines)
          (bytes ++ (bytes_written effects ++ t.lines)) does.writes.gathers
          (gathers_shift (between.left ++ rest_of journal effects) t.left bytes between.lines
          (bytes_written effects ++ t.lines) more.account));
    }
engines_are_runs journal terms (Looked ∷ effects) s t (between, does, later) =
    let more = engines_are_runs journal terms effects between t later in
    record {
      hub = subst (λ (h : DispatcherState). RunsHub journal terms h (answers_in effects) t.hub) does.hub
          more.hub;
      account = subst (λ (l : List Entry). GathersFront (l ++ rest_of journal effects) s.lines t.left
          (bytes_written effects ++ t.lines)) does.left
          (subst (λ (l : List ℕ). GathersFront (between.left ++ rest_of journal effects) l t.left
          (bytes_written effects ++ t.lines)) does.lines more.account);
    }

-- ---- where an account is kept

-- from an engine on of which all is written
from_written : (terms : DispatcherTerms) (effects : List EngineEffect) (s t : EngineState)
    → RunsEngine true terms s effects t → IsAllWritten s
    → GathersFront (made_in (answers_in effects)) [] t.left (bytes_written effects ++ t.lines)
from_written terms effects s t runs all =
    let is = (engines_are_runs true terms effects s t runs).account in
    subst (λ (l : List ℕ). GathersFront (made_in (answers_in effects)) l t.left (bytes_written effects ++
    t.lines))
    all.lines
    (subst (λ (l : List Entry). GathersFront (l ++ made_in (answers_in effects)) s.lines t.left
    (bytes_written effects ++ t.lines)) all.left is)

-- the account has grown by all entries
pub longer : (terms : DispatcherTerms) (answers : List HubAnswer) (s t : DispatcherState)
    → RunsHub true terms s answers t
    → t.book.length ≡ s.book.length + length (made_in answers)
longer terms answers s t runs =
    let is = hubs_are_runs true terms answers s t runs in
    counted_run terms.limits s.now t.now s.book t.book
    (flat_map causes_of (all_effects (run_effects true terms answers s t runs))) (made_in answers) is.one_run

pub written_are_counted : WrittenAreCounted
written_are_counted terms effects s t runs all =
    let gathers = from_written terms effects s t runs all in
    let more = longer terms (answers_in effects) s.hub t.hub (engines_are_runs true terms effects s t
    runs).hub in
    let sum = ap length gathers.parts ∙ length-append gathers.front t.left in
    record {
      gathers = gathers;
      count = omega (arith, more, sum);
    }

text_of : (a b : Account) (made : List Entry) → AddsEntries a made b
    → printed_lines (account_lines b) ≡ printed_lines (account_lines a) ++ entry_lines made
text_of a b made adds =
    ap (λ (n : ℕ). head_text n b.opened ++ 10 ∷ entry_lines b.entries) adds.epoch
    ∙ ap (λ (n : ℕ). head_text a.epoch n ++ 10 ∷ entry_lines b.entries) adds.opened
    ∙ ap (λ (l : List Entry). head_text a.epoch a.opened ++ 10 ∷ entry_lines l) adds.entries
    ∙ ap (λ (l : List ℕ). head_text a.epoch a.opened ++ 10 ∷ l) (lines_append a.entries made)
    ∙ sym (append_assoc (head_text a.epoch a.opened) (10 ∷ entry_lines a.entries) (entry_lines made))

all_lines : (made left : List Entry) (bytes lines : List ℕ) → GathersFront made [] left (bytes ++ lines)
    → entry_lines made ≡ bytes ++ (lines ++ entry_lines left)
all_lines made left bytes lines gathers =
    ap entry_lines gathers.parts ∙ lines_append gathers.front left
    ∙ ap (λ (l : List ℕ). l ++ entry_lines left) (sym gathers.gathered)
    ∙ append_assoc bytes lines (entry_lines left)

pub accounts_are_kept : AccountsAreKept
accounts_are_kept terms effects s t a limits runs all moment is =
    let run = (engines_are_runs true terms effects s t runs).hub in
    let hub = hubs_are_runs true terms (answers_in effects) s.hub t.hub run in
    let leads = events_lead terms (run_effects true terms (answers_in effects) s.hub t.hub run) s.hub t.hub a
    limits
    hub.does moment is in
    let adds : AddsEntries a (made_in (answers_in effects)) leads.after =
    subst (λ (l : List Entry). AddsEntries a l leads.after) (sym hub.made_is) leads.adds in
    record {
      after = leads.after;
      adds = adds;
      is = leads.is;
      text = text_of a leads.after (made_in (answers_in effects)) adds
          ∙ ap (λ (l : List ℕ). printed_lines (account_lines a) ++ l)
          (all_lines (made_in (answers_in effects)) t.left (bytes_written effects) t.lines
          (from_written terms effects s t runs all));
    }

pub hands_on_next : HandsOnNext
hands_on_next old new what none is =
    let sum = ap length is.gathers.gathers.parts ∙ length-append is.gathers.gathers.front new.left in
    let zero_left : length old.left ≡ 0 = ap length none in
    omega (arith, sum, zero_left, is.some)
