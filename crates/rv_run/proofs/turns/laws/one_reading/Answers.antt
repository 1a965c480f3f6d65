-- One moment's digits and one body, which is that of one message.
use Rattle.std.proofs.Common.{List, ap, subst, sym, ◌∙◌, ℕ}
use Rattle.rv_text.specs.Bodies.{IsMessageBody}
use Rattle.rv_text.specs.Number.{value_of_digits}
use Rattle.rv_run.proofs.OfTurns.Cutting.{one_cut}
use Rattle.rv_run.proofs.turns.laws.one_reading.Goals as goal

pub returns : goal.returns
returns c line t u m n first second =
    let one = one_cut first.digits first.body second.digits second.body t u first.says_moment
    second.says_moment (sym first.parts ∙ second.parts) in (
      first.says_moment.1 ∙ ap value_of_digits one.0 ∙ sym second.says_moment.1,
      c.one_message.ensures second.body m n (subst (λ (body : List ℕ). IsMessageBody body m) one.1
          first.says_message) second.says_message,
    )
