-- Where there is an account, there is no store.
use Rattle.std.proofs.Common.{◌∙◌, sym}
use Rattle.rv_words.proofs.OfOptions.Keeping.{no_value, there}
use Rattle.rv_words.proofs.options.store_of.Goals as goal
use Rattle.rv_words.proofs.options.store_of.Goals.{else-is_some-via-else-is_some}
use Rattle.rv_words.proofs.options.store_of.Goals.{else-is_some-via-then-is_some+else-is_some-2}

pub returns-else-is_some-clause-alone : goal.returns-else-is_some-clause-alone
returns-else-is_some-clause-alone c set = elim c.else-is_some.branch [
  | else-is_some-via-then-is_some+else-is_some-2 w ↦
      let is = w.is_some-then-is_some.ensures ∙ there _ _ w.text_of.ensures in
      absurd (cc)
  | else-is_some-via-else-is_some w ↦ no_value _ (sym c.is_some.ensures ∙ w.if-is_some.false)
]
