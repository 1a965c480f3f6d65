use Rattle.std.proofs.Common.{◌∙◌, ◌<◌, ℕ, arith, length, subst}
use Rattle.rv_machine.specs.Machines.{state_in}
use Rattle.rv_account.specs.Calls.{may_name}
use Rattle.rv_verify.specs.follow.state_rules.Walking.{facing_places}
use Rattle.rv_verify.proofs.OfFollow.OfAsked.Lines.{all_taken, facing_rises, one_left}
use Rattle.rv_verify.proofs.OfFollow.OfAsked.Prefixes.{next_at}
use Rattle.rv_verify.proofs.follow.state_rules.line.takes_all.Goals as goal

pub returns-in-Some : goal.returns-in-Some
returns-in-Some c =
    let s = state_in c.args.machine.now in
    let call = c.args.call.now in
    let partners = c.args.partners.now in
    let fewer : length partners < may_name call =
    subst (λ (n : ℕ). length partners < n) c.may_name.ensures c.if-may_name-partners.false in
    let front = c.requires.front fewer in
    let next = next_at partners (facing_places s call) (length partners) c.last_of.result
    (facing_rises s c.requires.resumes call) front (omega arith) c.last_of.ensures.first
    c.last_of.ensures.later in
    one_left s c.requires.resumes call partners front c.in-Some.field-0 (c.in-Some.ensures ∙ next) fewer

pub returns-in-None : goal.returns-in-None
returns-in-None c =
    let s = state_in c.args.machine.now in
    let call = c.args.call.now in
    let partners = c.args.partners.now in
    let fewer : length partners < may_name call =
    subst (λ (n : ℕ). length partners < n) c.may_name.ensures c.if-may_name-partners.false in
    let front = c.requires.front fewer in
    let next = next_at partners (facing_places s call) (length partners) c.last_of.result
    (facing_rises s c.requires.resumes call) front (omega arith) c.last_of.ensures.first
    c.last_of.ensures.later in
    all_taken s c.requires.resumes call partners front (c.in-None.ensures ∙ next)
