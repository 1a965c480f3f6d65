-- A line is bad where its word is none, and where its fields say none of it.
use Rattle.std.proofs.Common.{◌≡◌, None, arith, codes, sym, ◌∙◌}
use Rattle.std.proofs.lemmas.Bool.{false≢true}
use Rattle.rv_run.proofs.OfPlay.Saying.{no_space, only_begin, parts_say_none}
use Rattle.rv_run.proofs.play.event.read_event.Goals as goal

pub returns-in_err-word-clause-bad : goal.returns-in_err-word-clause-bad
returns-in_err-word-clause-bad c bad =
    let none : c.cut_at.result ≡ None = grind arith in
    no_space c.args.line.now (c.cut_at.ensures.none none)

pub returns-then-is_word-clause-bad : goal.returns-then-is_word-clause-bad
returns-then-is_word-clause-bad c bad =
    let parts = rw c.in_ok-word.ensures.ok_part at c.cut_at.ensures.parts in
    let first = rw c.in_ok-word.ensures.ok_part at c.cut_at.ensures.first in
    parts_say_none c.args.line.now c.in_ok-word.word.now c.in_ok-word.fields.now parts first
    (only_begin c.in_ok-word.word.now c.in_ok-word.fields.now (c.is_word.ensures.0 c.if-is_word.true)
    (c.begin.ensures.bad bad))

pub returns-clause-bad : goal.returns-clause-bad
returns-clause-bad c bad =
    let parts = rw c.in_ok-word.ensures.ok_part at c.cut_at.ensures.parts in
    let first = rw c.in_ok-word.ensures.ok_part at c.cut_at.ensures.first in
    let none : c.event_of.result ≡ None = grind arith in
    let begin : c.in_ok-word.word.now ≡ codes "begin"
    → ⊥ = λ same. false≢true (sym c.if-is_word.false ∙ c.is_word.ensures.1 same) in
    parts_say_none c.args.line.now c.in_ok-word.word.now c.in_ok-word.fields.now parts first
    (λ e says. c.event_of.ensures.none none e (λ same. begin (says.0 ∙ same)) says)
