-- Moves that make no entry.
use Rattle.std.proofs.Common.{◌≡◌, ◌∙◌, ℕ, [], refl, sym}
use Rattle.std.proofs.lemmas.List.{append-nil}
use Rattle.rv_text.specs.declared.answer.Answer.{Answer}
use Rattle.rv_text.specs.declared.answer.Answer.TheVariants.{Refused}
use Rattle.rv_text.specs.declared.answer.Refusal.{Refusal}
use Rattle.rv_text.specs.declared.message.Message.{Message}
use Rattle.rv_account.specs.rules.StepLimits.{StepLimits}
use Rattle.rv_account.specs.state.Moves.{StateNextAtUnder, staying}
use Rattle.rv_machine.specs.declared.tables.Holdings.{Holdings}
use Rattle.rv_machine.specs.declared.machine.Said.{Said}
use Rattle.rv_machine.specs.declared.machine.Said.TheVariants as said
use Rattle.rv_machine.specs.Machines.{MovesBy, Says, state_in}

-- the machine is as before but for room
module _ (limits : StepLimits) (old new : Holdings) (moment : ℕ) (m : Message) (same : state_in new ≡
    state_in
    old)
    (kept : new.settled.items ≡ old.settled.items) where
  pub moves_staying : (answer : Answer) (told : Said) → Says (state_in new) told answer
      → StateNextAtUnder limits (state_in old) moment m (staying (state_in old) answer)
      → MovesBy limits old new moment m [] told
  moves_staying answer told says moves = record {
    move = staying (state_in old) answer;
    moves = moves;
    makes = refl;
    says = says;
    settles = kept ∙ sym (append-nil _);
    after = same;
  }

  pub moves_refused : (refusal : Refusal)
      → StateNextAtUnder limits (state_in old) moment m (staying (state_in old) (Refused refusal))
      → MovesBy limits old new moment m [] (said.Refused refusal)
  moves_refused refusal moves = moves_staying (Refused refusal) (said.Refused refusal) refl moves
