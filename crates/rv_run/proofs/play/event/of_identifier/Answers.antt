-- Another word says no event.
use Rattle.std.proofs.Common.{sym, ◌∙◌}
use Rattle.std.proofs.lemmas.Bool.{false≢true}
use Rattle.rv_run.proofs.OfPlay.Saying.{other_word_of_one}
use Rattle.rv_run.proofs.play.event.of_identifier.Goals as goal

pub returns-clause-none : goal.returns-clause-none
returns-clause-none c none = other_word_of_one c.args.word.now c.args.identifier.now
    (λ same. false≢true (sym c.if-is_word.false ∙ c.is_word.ensures.1 same))
    (λ same. false≢true (sym c.if-is_word-2.false ∙ c.is_word-2.ensures.1 same))
    (λ same. false≢true (sym c.if-is_word-3.false ∙ c.is_word-3.ensures.1 same))
    (λ same. false≢true (sym c.if-is_word-4.false ∙ c.is_word-4.ensures.1 same))
