use Rattle.std.proofs.Common.{◌∙◌, arith, sym}
use Rattle.rv_machine.specs.Machines.{state_in}
use Rattle.rv_verify.specs.follow.state_rules.Walking.{facing_places}
use Rattle.rv_verify.proofs.OfFollow.OfAsked.Lines.{facing_rises, none_stands, stands_told}
use Rattle.rv_verify.proofs.OfFollow.OfAsked.Prefixes.{next_at}
use Rattle.rv_verify.proofs.follow.state_rules.line.stands_next.Goals as goal

pub returns-in-Some : goal.returns-in-Some
returns-in-Some c =
    let s = state_in c.args.machine.now in
    let call = c.args.call.now in
    let next = next_at c.args.partners.now (facing_places s call) c.args.index c.last_of.result
    (facing_rises s c.requires.resumes call) c.requires.front (omega arith) c.last_of.ensures.first
    c.last_of.ensures.later in
    stands_told (facing_places s call) c.args.partners.now c.args.index c.in-Some.next
    (sym next ∙ sym c.in-Some.ensures) c.requires.inside

pub returns-in-None : goal.returns-in-None
returns-in-None c =
    let s = state_in c.args.machine.now in
    let call = c.args.call.now in
    let next = next_at c.args.partners.now (facing_places s call) c.args.index c.last_of.result
    (facing_rises s c.requires.resumes call) c.requires.front (omega arith) c.last_of.ensures.first
    c.last_of.ensures.later in
    none_stands (facing_places s call) c.args.partners.now c.args.index (sym next ∙ sym c.in-None.ensures)
    c.requires.inside
