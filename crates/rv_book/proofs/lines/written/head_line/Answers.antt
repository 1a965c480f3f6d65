-- Two words, each with a number after it, are short.
use Rattle.std.proofs.Common.{string_bytes}
use Rattle.std.proofs.lemmas.Result.{IfOk-weaker}
use Rattle.rv_book.proofs.OfLines.Texts.{head_is_short, head_text_is}
use Rattle.rv_book.proofs.lines.written.head_line.Goals as goal

pub returns-clause-text : goal.returns-clause-text
returns-clause-text c = IfOk-weaker c.format.result _ _ (λ s same. head_text_is (string_bytes s) c.args.epoch
    c.args.opened same) c.format.ensures.ok

pub returns-clause-short : goal.returns-clause-short
returns-clause-short c =
    IfOk-weaker c.format.result _ _ (λ s same. head_is_short (string_bytes s) c.args.epoch c.args.opened same
    c.ranges.epoch.fits c.ranges.opened.fits) c.format.ensures.ok
