-- A line says one entry, and that is the one which was read.
use Rattle.rv_verify.specs.Naming.{MeetsOne}
use Rattle.rv_verify.proofs.Again.{read_same}
use Rattle.rv_verify.proofs.naming.line_met.Goals as goal

pub returns-clause-yes : goal.returns-clause-yes
returns-clause-yes c told =
    let is = c.tells_met.ensures.yes told in
    read_same c.read_entry-read.result c.args.line.now (λ e. MeetsOne c.args.named.now c.args.place
    e.partners)
    is.0 c.read_entry-read.ensures.reads is.1

pub returns-clause-no : goal.returns-clause-no
returns-clause-no c told =
    let is = c.tells_met.ensures.no told in
    read_same c.read_entry-read.result c.args.line.now (λ e. ¬ MeetsOne c.args.named.now c.args.place
    e.partners)
    is.0 c.read_entry-read.ensures.reads is.1

pub returns-clause-none : goal.returns-clause-none
returns-clause-none c told = c.read_entry-read.ensures.bad (c.tells_met.ensures.none told)
