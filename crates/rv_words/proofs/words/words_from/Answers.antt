-- The words are the name, the command and the others; or else there is no second word, or it is another.
use Rattle.std.proofs.Common.{[], Bor, arith}
use Rattle.std.proofs.lemmas.Slice.Eq.{slice_eq-Decides}
use Rattle.std.specs.Cmp.{unsigned_Decides}
use Rattle.clap.specs.Words.{Text}
use Rattle.rv_words.proofs.OwnWords.{begin_by, begin_otherwise}
use Rattle.rv_words.proofs.words.words_from.Goals.{else-words-gt1-via-then-words-gt1+else-eq}
use Rattle.rv_words.proofs.words.words_from.Goals.{else-words-gt1-via-else-words-gt1}
use Rattle.rv_words.proofs.words.words_from.Goals as goal

none_there : Bor Text
none_there = record { ref_ptr = (0, 0); now = [] }

pub returns-then-eq-clause-some : goal.returns-then-eq-clause-some
returns-then-eq-clause-some c =
    let same = (slice_eq-Decides unsigned_Decides _ _ c.eq.result c.eq.ensures).0 c.if-eq.true in
    begin_by c.args.command.now c.args.words.now _ (omega (arith, c.if-words-gt1.true)) same

pub returns-else-words-gt1-clause-none : goal.returns-else-words-gt1-clause-none
returns-else-words-gt1-clause-none c none = elim c.else-words-gt1.branch [
  | else-words-gt1-via-then-words-gt1+else-eq w ↦
      begin_otherwise c.args.command.now c.args.words.now _ (λ more same.
      let told = (slice_eq-Decides unsigned_Decides _ _ w.eq.result w.eq.ensures).1 same in
      let untold = w.if-eq.false in (cc))
  | else-words-gt1-via-else-words-gt1 w ↦
      begin_otherwise c.args.command.now c.args.words.now none_there
      (λ more. absurd (omega (arith, more, w.if-words-gt1.false)))
]
