-- A step under limits only adds to the account, and so do time-outs alone.
use Rattle.rv_account.proofs.OfState.Words.{◌≡◌, ◌++◌, ◌∷◌, ◌∙◌, inl, inr, [], ℕ, refl, sym, ap, subst}
use Rattle.rv_account.proofs.OfState.Words.{append-nil}
use Rattle.rv_account.proofs.OfState.Words.{append_assoc, Account, Act}
use Rattle.rv_account.specs.Account.{Extends}
use Rattle.rv_account.specs.rules.StepLimits.{StepLimits}
use Rattle.rv_account.specs.rules.Steps.{Adds, step_moment}
use Rattle.rv_account.proofs.OfRules.StepLeaves.{leaves_at, own_act}
use Rattle.rv_account.specs.state.StepLaws.{StepsExtendUnder, TicksExtend}

pub extends_itself : (a : Account) → Extends a a
extends_itself a = record { epoch = refl; opened = refl; more = []; entries = sym (append-nil a.entries) }

pub extends_on : (a b c : Account) → Extends a b → Extends b c → Extends a c
extends_on a b c first second = record {
  epoch = second.epoch ∙ first.epoch;
  opened = second.opened ∙ first.opened;
  more = first.more ++ second.more;
  entries = second.entries ∙ ap (λ es. es ++ second.more) first.entries ∙ append_assoc a.entries first.more
      second.more;
}

same_extends : (a b : Account) → b ≡ a → Extends a b
same_extends a b same = subst (Extends a) (sym same) (extends_itself a)

added_extends : (a b : Account) (moment : ℕ) (does : Act) → Adds a moment does b → Extends a b
added_extends a b moment does added = subst (Extends a) (sym added.follows) (record {
  epoch = refl;
  opened = refl;
  more = added.entry ∷ [];
  entries = refl;
})

pub ticks_extend : TicksExtend
ticks_extend a b moment (inl ticks) = added_extends a b moment _ ticks.1
ticks_extend a b moment (inr same) = same_extends a b same.1

pub steps_extend_under : (limits : StepLimits) → StepsExtendUnder limits
steps_extend_under limits a b now m x next =
    let t = next.ticked in
    let moment : ℕ = step_moment a now in
    extends_on a t b (ticks_extend a t moment next.ticks) (elim (leaves_at limits t b moment x m next.steps) [
      | inl same ↦ same_extends t b same
      | inr entered ↦ added_extends t b moment (own_act m) entered.0
    ])
