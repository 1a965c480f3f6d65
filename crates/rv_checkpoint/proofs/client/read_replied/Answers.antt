-- The fields are found where the line has them.
use Rattle.std.proofs.Common.{◌≡◌, ◌∙◌, List, ℕ, None, Err, ap, arith, refl, subst, sym}
use Rattle.std.proofs.lemmas.Result.{err_from_is_err_and}
use Rattle.rv_book.specs.declared.lines.fault.LineFault.TheVariants as line
use Rattle.rv_book.specs.lines.Faults.{line_fault}
use Rattle.rv_text.specs.Bodies.{IsCallBody}
use Rattle.rv_checkpoint.specs.Fields.{CutsTexts, IsBodyOfReply}
use Rattle.rv_checkpoint.proofs.Cuts.{texts_one, version_one}
use Rattle.rv_checkpoint.proofs.Decoded.{no_body}
use Rattle.rv_checkpoint.proofs.client.read_replied.Goals as goal

pub returns-in_err-version-clause-bad : goal.returns-in_err-version-clause-bad
returns-in_err-version-clause-bad c told client session says =
    let none : c.cut_version.result ≡ None = grind arith in
    c.cut_version.ensures.none none session.version says.after says.version

pub returns-in_err-text-clause-bad : goal.returns-in_err-text-clause-bad
returns-in_err-text-clause-bad c told client session says =
    let none : c.cut_texts.result ≡ None = grind arith in
    let cut = rw c.in_ok-version.ensures.ok_part at c.cut_version.ensures.some in
    let same = version_one says.version cut in
    c.cut_texts.ensures.none none says.text says.body
    (subst (λ (l : List ℕ). CutsTexts l says.text says.body) same.1 says.texts)

pub returns-in_err-call-clause-bad : goal.returns-in_err-call-clause-bad
returns-in_err-call-clause-bad c told client session says =
    let exit = err_from_is_err_and c.from_residual-in_err-call.result c.from_residual-in_err-call.ensures.1 in
    let bad : line_fault c.in_err-call.field-0.0 ≡ line.Bad = sym exit.2 ∙ cc in
    let cut = rw c.in_ok-version.ensures.ok_part at c.cut_version.ensures.some in
    let same = version_one says.version cut in
    let texts = rw c.in_ok-text.ensures.ok_part at c.cut_texts.ensures.some in
    let there = texts_one (subst (λ (l : List ℕ). CutsTexts l says.text says.body) same.1 says.texts) texts in
    no_body _ _ c.in_err-call.ensures refl bad says.call
    (subst (λ (l : List ℕ). IsCallBody l says.call) there.0 says.asked)

pub returns-in_err-key-clause-bad : goal.returns-in_err-key-clause-bad
returns-in_err-key-clause-bad c told client session says =
    let exit = err_from_is_err_and c.from_residual-in_err-key.result c.from_residual-in_err-key.ensures.1 in
    let bad : c.in_err-key.field-0.0 ≡ line.Bad = sym exit.2 ∙ cc in
    let cut = rw c.in_ok-version.ensures.ok_part at c.cut_version.ensures.some in
    let same = version_one says.version cut in
    let texts = rw c.in_ok-text.ensures.ok_part at c.cut_texts.ensures.some in
    let there = texts_one (subst (λ (l : List ℕ). CutsTexts l says.text says.body) same.1 says.texts) texts in
    c.in_err-key.ensures.bad (ap Err bad) says.key says.reply
    (subst (λ (l : List ℕ). IsBodyOfReply c.args.epoch l says.key says.reply) there.1 says.says)
