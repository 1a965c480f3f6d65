-- Three short fields are a short line.
use Rattle.std.proofs.Common.{rules, string_bytes}
use Rattle.std.proofs.lemmas.Result.{IfOk-weaker}
use Rattle.rv_book.proofs.OfLines.Texts.{entry_is_short, entry_text_is}
use Rattle.rv_book.proofs.lines.written.entry_line.Goals as goal

pub returns-clause-text : goal.returns-clause-text
returns-clause-text c =
    IfOk-weaker c.format.result _ _ (λ s same. entry_text_is c.args.entry.now (string_bytes s)
    (string_bytes c.in_ok-partners.partners) (string_bytes c.in_ok-act.act) same c.in_ok-partners.ensures
    c.in_ok-act.ensures.text) c.format.ensures.ok

pub returns-clause-short : goal.returns-clause-short
returns-clause-short c act partners =
    IfOk-weaker c.format.result _ _ (λ s same. entry_is_short c.args.entry.now (string_bytes s)
    (string_bytes c.in_ok-partners.partners) (string_bytes c.in_ok-act.act) same (search rules)
    c.in_ok-partners.ensures partners (c.in_ok-act.ensures.short act)) c.format.ensures.ok
