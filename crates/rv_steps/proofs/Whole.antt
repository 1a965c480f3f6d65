-- A tick and a subscription after it make a whole step, whose answer is the only one that is said.
use Rattle.std.proofs.Common.{◌≡◌, ◌∙◌, ◌++◌, ℕ, refl, sym, subst, ap}
use Rattle.std.proofs.lemmas.Option.{same_Some}
use Rattle.rv_text.specs.declared.answer.Answer.{Answer}
use Rattle.rv_text.specs.declared.message.Message.{Message}
use Rattle.rv_account.specs.rules.StepLimits.{StepLimits}
use Rattle.rv_account.specs.state.Moves.{Move, StateNextAtUnder, StateNextUnder, answer_told, state_moment}
use Rattle.rv_account.specs.state.Moves.{ticked_at}
use Rattle.rv_account.specs.state.Moves.{told_again}
use Rattle.rv_account.specs.state.State.{State}
use Rattle.rv_machine.specs.Machines.{Says, state_in}
use Rattle.rv_machine.specs.Stepping.{IsHearing, IsTick}
use Rattle.rv_machine.specs.declared.machine.Machine.{Machine}
use Rattle.rv_machine.specs.declared.machine.Said.{Said}
use Rattle.rv_machine.specs.declared.machine.Said.TheVariants as said
use Rattle.rv_machine.specs.declared.steps.Heard.{Heard}
use Rattle.rv_machine.specs.declared.steps.TickMade.{TickMade}

one_said : (s : State) (what : Said) (a b : Answer) → Says s what a → Says s what b → a ≡ b
one_said s (said.Welcome epoch client incarnation version) a b first second = first ∙ sym second
one_said s (said.Told key) a b (session, there, is) (session', there', is') =
    let same = same_Some _ _ (sym there ∙ there') in
    is ∙ ap (λ x. answer_told key (told_again x.request)) same ∙ sym is'
one_said s (said.Refused refusal) a b first second = first ∙ sym second

pub whole_step : (limits : StepLimits) (old mid new : Machine) (now : ℕ) (m : Message) (made : TickMade)
    (heard : Heard) → made.moment ≡ state_moment (state_in old) now → IsTick old mid made
    → IsHearing limits mid new made.moment m heard → (answer : Answer) → Says (state_in new) heard.said answer
    → (move : Move) × StateNextUnder limits (state_in old) now m move
    × (answer ≡ move.answer) × (state_in new ≡ move.after)
whole_step limits old mid new now m made heard at ticks hears answer says =
    let moment = state_moment (state_in old) now in
    let ticked = ticked_at (state_in old) moment in
    let after = subst (λ (t : ℕ). state_in mid ≡ (ticked_at (state_in old) t).after) at ticks.after in
    let timed = subst (λ (t : ℕ). StateNextAtUnder limits (state_in mid) t m hears.move) at hears.moves in
    let moves = subst (λ (s : State). StateNextAtUnder limits s moment m hears.move) after timed in
    let whole : Move = record {
      entries = ticked.entries ++ hears.move.entries;
      answer = hears.move.answer;
      settles = ticked.settles ++ hears.move.settles;
      after = hears.move.after;
    } in
    let step : StateNextUnder limits (state_in old) now m whole = record {
      then = hears.move;
      steps = moves;
      entries = refl;
      answer = refl;
      settles = refl;
      after = refl;
    } in
    (whole, step, one_said (state_in new) heard.said answer hears.move.answer says hears.says, hears.after)
