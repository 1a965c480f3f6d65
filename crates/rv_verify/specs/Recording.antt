-- Which record of replies the lines of an input are.
use Rattle.std.specs.Prelude.{ℕ, List}
use Rattle.std.specs.List.{AllZip}
use Rattle.rv_book.specs.lines.Lines.{lines}
use Rattle.rv_replies.specs.Standing.{IsRecordLine}
use Rattle.rv_replies.specs.declared.records.Records.{Records}
use Rattle.rv_verify.specs.Stages.{AreNew}

-- each line of the bytes is a line of the record, in their order, and no entry is noted
pub record IsRecordOf (bytes : List ℕ) (r : Records) : Type 0 where
  pub one_by_one : AllZip IsRecordLine (lines bytes) r.lines.items
  pub are_new : AreNew r
