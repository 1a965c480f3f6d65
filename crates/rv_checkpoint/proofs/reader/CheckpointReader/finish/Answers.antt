-- The state is that of what was read.
use Rattle.std.proofs.Common.{◌∙◌, arith, sym, subst}
use Rattle.rv_account.specs.state.resume.Resuming.{CanResume}
use Rattle.rv_checkpoint.proofs.ReadOn.{is_no_whole, read_state, state_read}
use Rattle.rv_checkpoint.proofs.reader.CheckpointReader.finish.Goals as goal

pub returns-then-not-is_whole-clause-none : goal.returns-then-not-is_whole-clause-none
returns-then-not-is_whole-clause-none c none read s has says =
    let whole = is_no_whole _ c.in_ok-head.head _ _ _ read s c.in_ok-head.was has says in
    let is = c.is_whole.ensures.1 whole in absurd (grind (arith, is))

pub returns-in_err-state-clause-none : goal.returns-in_err-state-clause-none
returns-in_err-state-clause-none c none read s has says =
    c.in_err-state.ensures.none (c.is_whole.ensures.0 c.if-not-is_whole.false).1

pub returns-then-can_resume-clause-some : goal.returns-then-can_resume-clause-some
returns-then-can_resume-clause-some c read has =
    let whole = c.is_whole.ensures.0 c.if-not-is_whole.false in
    state_read _ c.in_ok-head.head _ _ _ read c.in_ok-state.state c.in_ok-head.was whole.0 has
    c.in_ok-state.ensures.some whole.1 (c.can_resume.ensures.0 c.if-can_resume.true)

pub returns-else-can_resume-clause-none : goal.returns-else-can_resume-clause-none
returns-else-can_resume-clause-none c none read s has says =
    let whole = c.is_whole.ensures.0 c.if-not-is_whole.false in
    let same = read_state _ c.in_ok-head.head _ _ _ read s c.in_ok-head.was whole.0 has says
    ∙ sym c.in_ok-state.ensures.some in
    let is = c.can_resume.ensures.1 (subst CanResume same says.resumes) in
    absurd (grind (arith, is))
