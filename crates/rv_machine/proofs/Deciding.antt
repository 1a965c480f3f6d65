-- Lines of a step decide alike, whatever they lead to: what follows from one set of them, and from another of
-- the same conditions.
use Rattle.std.proofs.Common.{ℕ, Option, None, Some, inl, inr}
use Rattle.rv_text.specs.declared.call.Call.{Call}
use Rattle.rv_text.specs.declared.message.Key.{Key}
use Rattle.rv_text.specs.declared.version.Version.{Version}
use Rattle.rv_text.specs.declared.answer.Refusal.{Refusal}
use Rattle.rv_text.specs.declared.answer.Refusal.TheVariants.{EpochFull}
use Rattle.rv_account.specs.Calls.{need_of}
use Rattle.rv_account.specs.rules.StepLimits.{StepLimits}
use Rattle.rv_account.specs.rules.Steps.{RefuseOr, WhereElse}
use Rattle.rv_account.specs.state.Follows.{NumberWaits}
use Rattle.rv_account.specs.state.Moves.{CallDiffers, EpochDiffers, HasSessionOf, IncarnationOld}
use Rattle.rv_account.specs.state.Moves.{NoClientMoreUnder}
use Rattle.rv_account.specs.state.Moves.{NoEntryMoreUnder, NumberAbove, NumberIsLast, NumberOld, SessionBusy}
use Rattle.rv_account.specs.state.Moves.{SessionLacks}
use Rattle.rv_account.specs.state.Moves.{StateCancelLinesUnder, StateHelloLinesUnder, StateKeyLines}
use Rattle.rv_account.specs.state.Moves.{StatePlaceLine, StateRequestLinesUnder}
use Rattle.rv_account.specs.state.Moves.{VersionDiffers}
use Rattle.rv_account.specs.state.State.{State}
use Rattle.rv_machine.specs.Limiting.{LacksPlace}

-- the epoch has space for so many entries more
abbrev pub NotFull : StepLimits → State → ℕ → Type 0
NotFull limits s need = (r : Refusal) → NoEntryMoreUnder limits s need r → ⊥

-- ---- one line

module _ (C : Type 0) (due refuses others : Refusal → Type 0) (goes on : Type 0) where
  either : RefuseOr due refuses goes → RefuseOr due others on → ((r : Refusal) → refuses r → C)
      → (((r : Refusal) → due r → ⊥) → goes → on → C) → C
  either (inl one) second refused then = refused one.refusal one.refuses_it
  either (inr first) (inl other) refused then = absurd (first.0 other.refusal other.is_due)
  either (inr first) (inr second) refused then = then first.0 first.1 second.1

-- there is a place, and it enters
module _ (C : Type 0) (s : State) (call : Call) (refuses : Refusal → Type 0) (enters : Type 0) where
  by_place : (bound : Option ℕ) → StatePlaceLine bound s call refuses enters
      → ((r : Refusal) → refuses r → C) → ((LacksPlace bound s call → ⊥) → enters → C) → C
  by_place None line refused then = then (λ lacks. lacks) line
  by_place (Some most) (inl one) refused then = refused one.refusal one.refuses_it
  by_place (Some most) (inr has) refused then = then (has.0 EpochFull) has.1

module _ (C condition this that one other : Type 0) where
  where_both : WhereElse condition this that → WhereElse condition one other → (condition → this → one → C)
      → (that → other → C) → C
  where_both (inl first) (inl second) here there = here first.0 first.1 second.1
  where_both (inl first) (inr second) here there = absurd (second.0 first.0)
  where_both (inr first) (inl second) here there = absurd (first.0 second.0)
  where_both (inr first) (inr second) here there = there first.1 second.1

module _ (C : Type 0) (limits : StepLimits) (s : State) where
  -- ---- keys

  module _ (key : Key) (refuses others : Refusal → Type 0) (last above at_last beyond : Type 0) where
    by_key : StateKeyLines s key refuses last above → StateKeyLines s key others at_last beyond
        → ((r : Refusal) → refuses r → C) → (last → at_last → C) → (above → beyond → C) → C
    by_key first second refused at_its_last then =
        either C (EpochDiffers s key) refuses others _ _ first second refused
        (λ _ one other. either C (SessionLacks s key) refuses others _ _ one other refused
        (λ _ one other. either C (IncarnationOld s key.client key.incarnation) refuses others _ _ one other
        refused
        (λ _ one other. either C (NumberOld s key) refuses others _ _ one other refused
        (λ _ one other. where_both C (NumberIsLast s key) _ _ _ _ one other (λ _. at_its_last)
        (λ one other. either C (SessionBusy s key) refuses others _ _ one other refused
        (λ _ one other. either C (NumberAbove s key) refuses others _ _ one other refused
        (λ _. then)))))))

  -- ---- messages

  module _ (key : Key) (call : Call) (refuses others : Refusal → Type 0)
      (repeats enters at_last beyond : Type 0) where
    pub by_request : StateRequestLinesUnder limits s key call refuses repeats enters
        → StateKeyLines s key others at_last beyond
        → ((r : Refusal) → refuses r → C) → (repeats → C) → (NotFull limits s (need_of call)
        → (LacksPlace limits.open_places s call → ⊥) → enters → beyond → C) → C
    by_request first second refused repeated entered =
        by_key key refuses others _ _ _ _ first second refused
        (λ one _. either C (CallDiffers s key call) refuses refuses _ _ one one refused
        (λ _ again _. repeated again))
        (λ one next. either C (NoEntryMoreUnder limits s (need_of call)) refuses refuses _ _ one one refused
        (λ space then _. by_place C s call refuses enters limits.open_places then refused
        (λ place then. entered space place then next)))

  module _ (key : Key) (refuses others : Refusal → Type 0)
      (ends repeats enters at_last beyond : Type 0) where
    pub by_cancel : StateCancelLinesUnder limits s key refuses ends repeats enters
        → StateKeyLines s key others at_last beyond
        → ((r : Refusal) → refuses r → C) → (NumberWaits s key → ends → C) → (repeats → C)
        → (NotFull limits s 1 → enters → beyond → C) → C
    by_cancel first second refused ended repeated entered =
        by_key key refuses others _ _ _ _ first second refused
        (λ one _. where_both C (NumberWaits s key) _ _ _ _ one one (λ waits end _. ended waits end)
        (λ again _. repeated again))
        (λ one next. either C (NoEntryMoreUnder limits s 1) refuses refuses _ _ one one refused
        (λ space then _. entered space then next))

  module _ (client incarnation : ℕ) (version : Version) (refuses others : Refusal → Type 0)
      (repeats enters again beyond : Type 0) where
    pub by_hello : StateHelloLinesUnder limits s client incarnation version refuses repeats enters
        → StateHelloLinesUnder limits s client incarnation version others again beyond
        → ((r : Refusal) → refuses r → C) → (repeats → C) → (NotFull limits s 1 → enters → beyond → C) → C
    by_hello first second refused repeated entered =
        either C (IncarnationOld s client incarnation) refuses others _ _ first second refused
        (λ _ one other. either C (VersionDiffers s client incarnation version) refuses others _ _ one other
        refused
        (λ _ one other. where_both C (HasSessionOf s client incarnation) _ _ _ _ one other
        (λ _ here _. repeated here)
        (λ one other. either C (NoClientMoreUnder limits s client) refuses others _ _ one other refused
        (λ _ one other. either C (NoEntryMoreUnder limits s 1) refuses others _ _ one other refused
        entered))))
