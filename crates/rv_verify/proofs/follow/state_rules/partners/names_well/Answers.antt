-- Partners that name well, and what each test of them says.
use Rattle.std.proofs.Common.{◌∙◌, sym}
use Rattle.std.proofs.lemmas.Bool.{false≢true}
use Rattle.rv_machine.specs.Machines.{state_in}
use Rattle.rv_account.specs.state.Kept.{NamesWell}
use Rattle.rv_verify.proofs.OfFollow.OfAsked.Naming.{fall_not, many_not, never, pass_not, well_meeting}
use Rattle.rv_verify.proofs.follow.state_rules.partners.names_well.Goals as goal

pub returns-then-names_too_many : goal.returns-then-names_too_many
returns-then-names_too_many c =
    let s = state_in c.args.machine.now in
    let e = c.args.entry.now in
    let ps = c.as_slice-partners.result.now in
    let are = c.as_slice-partners.ensures in
    never (NamesWell s e)
    (elim c.then-names_too_many.branch [
      | goal.then-names_too_many-via-then-names_too_many w ↦
          many_not s e (c.names_too_many.ensures.0 w.if-names_too_many.true)
      | goal.then-names_too_many-via-else-names_too_many+then-not-rise w ↦
          fall_not s e ps are (λ rising. false≢true (sym w.if-not-rise.true ∙ w.rise.ensures.1 rising))
      | goal.then-names_too_many-via-else-names_too_many+else-not-rise+then-not-stand_below w ↦
          pass_not s e ps are w.length.result w.length.ensures
          (λ below. false≢true (sym w.if-not-stand_below.true ∙ w.stand_below.ensures.1 below))
    ])

pub returns-else-is_empty : goal.returns-else-is_empty
returns-else-is_empty c =
    well_meeting (state_in c.args.machine.now) c.args.entry.now c.as_slice-partners.result.now
    c.as_slice-partners.ensures c.length.result c.length.ensures
    (λ many. false≢true (sym c.if-names_too_many.false ∙ c.names_too_many.ensures.1 many))
    (c.rise.ensures.0 c.if-not-rise.false) (c.stand_below.ensures.0 c.if-not-stand_below.false)
    c.meets.result (sym c.is_empty.ensures ∙ c.if-is_empty.false) c.meets.ensures
