-- What came of a message, by its entry or its refusal, is a move of the machine whose list was cleared.
use Rattle.std.proofs.Common.{◌≡◌, ◌≤◌, ◌++◌, ◌∷◌, ◌∙◌, ℕ, List, [], Option, None, sym, ap, subst, arith}
use Rattle.std.specs.Global.{Vec}
use Rattle.std.specs.Prelude.{Result, Ok, Err, IfOk, IfErr, option_to_list}
use Rattle.rv_text.specs.declared.answer.Refusal.{Refusal}
use Rattle.rv_text.specs.declared.message.Key.{Key}
use Rattle.rv_text.specs.declared.message.Message.{Message}
use Rattle.rv_account.specs.declared.entry.Entry.{Entry}
use Rattle.rv_account.specs.rules.StepLimits.{StepLimits}
use Rattle.rv_account.specs.state.State.{OpenPlace, State}
use Rattle.rv_account.specs.state.After.{due_at}
use Rattle.rv_account.specs.state.Moves.{ticked_at, ticked_if}
use Rattle.rv_machine.specs.declared.tables.Holdings.{Holdings}
use Rattle.rv_machine.specs.declared.machine.Said.{Said}
use Rattle.rv_machine.specs.declared.machine.Said.TheVariants as said
use Rattle.rv_machine.specs.declared.steps.Heard.{Heard}
use Rattle.rv_machine.specs.Machines.{MovesBy, keys_settled, state_in}
use Rattle.rv_machine.specs.Stepping.{IsHearing, IsTick}
use Rattle.rv_machine.specs.Ticking.{TimesOut}

-- the machine with another list of those that were settled
abbrev pub with_settled : Holdings → Vec Key → Holdings
with_settled m list =
    record { moment = m.moment; length = m.length; table = m.table; clients = m.clients; settled = list }

module _ (old new : Holdings) (list : Vec Key) (none : list.items ≡ []) where
  -- ---- a tick

  pub ticks_by : (moment : ℕ) (made : Option Entry)
      → TimesOut (with_settled old list) new moment (option_to_list made)
      → IsTick old new (record { moment = moment; entry = made })
  ticks_by moment made ends = record {
    makes = ends.makes;
    settles = ends.settles
        ∙ ap (λ (l : List Key). l ++ keys_settled (ticked_at (state_in old) moment).settles) none;
    after = ends.after;
    room = ends.room;
  }

  -- ---- a message

  module _ (limits : StepLimits) (moment : ℕ) (m : Message) where
    heard_by : (out : Heard)
        → MovesBy limits (with_settled old list) new moment m (option_to_list out.entry) out.said
        → IsHearing limits old new moment m out
    heard_by out moves = record {
      move = moves.move;
      moves = moves.moves;
      makes = moves.makes;
      says = moves.says;
      settles = moves.settles ∙ ap (λ (l : List Key). l ++ keys_settled moves.move.settles) none;
      after = moves.after;
    }

    module _ (told : Said) (out : Heard) where
      outcome_heard : (made : Result (Option Entry) Refusal)
          → IfOk made (λ e. MovesBy limits (with_settled old list) new moment m (option_to_list e) told)
          → IfErr made (λ r. MovesBy limits (with_settled old list) new moment m [] (said.Refused r))
          → IfOk made (λ e. out ≡ record { entry = e; said = told })
          → IfErr made (λ r. out ≡ record { entry = None; said = said.Refused r })
          → IsHearing limits old new moment m out
      outcome_heard (Ok e) ok err is is_err =
          subst (λ (x : Heard). IsHearing limits old new moment m x) (sym is)
          (heard_by (record { entry = e; said = told }) ok)
      outcome_heard (Err r) ok err is is_err =
          subst (λ (x : Heard). IsHearing limits old new moment m x) (sym is_err)
          (heard_by (record { entry = None; said = said.Refused r }) err)

      -- the same of a message that was given otherwise
      pub outcome_is : (given : Message) → given ≡ m → (made : Result (Option Entry) Refusal)
          → IfOk made (λ e. MovesBy limits (with_settled old list) new moment m (option_to_list e) told)
          → IfErr made (λ r. MovesBy limits (with_settled old list) new moment m [] (said.Refused r))
          → IfOk made (λ e. out ≡ record { entry = e; said = told })
          → IfErr made (λ r. out ≡ record { entry = None; said = said.Refused r })
          → IsHearing limits old new moment given out
      outcome_is given is made ok err ok_is err_is =
          subst (λ (x : Message). IsHearing limits old new moment x out) (sym is)
          (outcome_heard made ok err ok_is err_is)

-- ---- moments

moment_if : (s : State) (moment : ℕ) (due : List OpenPlace) → s.moment ≤ moment
    → (ticked_if s moment due).after.moment ≤ moment
moment_if s moment [] later = later
moment_if s moment (due ∷ others) later = omega arith

-- no tick is later than its step
pub ticked_later : (s : State) (moment : ℕ) → s.moment ≤ moment → (ticked_at s moment).after.moment ≤ moment
ticked_later s moment later = moment_if s moment (due_at s moment) later
