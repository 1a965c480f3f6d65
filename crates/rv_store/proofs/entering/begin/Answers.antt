-- The machine that was opened holds what its journal has.
use Rattle.rv_store.proofs.NewAccount.{resumes_new, stored_new}
use Rattle.rv_machine.specs.Machines.{state_in}
use Rattle.rv_store.proofs.entering.begin.Goals as goal

pub returns-clause-stored : goal.returns-clause-stored
returns-clause-stored g c = λ tells. stored_new c.args.epoch c.args.opened c.requires.epoch c.requires.moment
    g.F.File.Device.disk
    (record { journal = c.in_ok-journal.journal; machine = c.in_ok-machine.machine })
    c.in_ok-machine.ensures (c.in_ok-journal.ensures.text tells) (c.in_ok-journal.ensures.durable tells)

pub returns-clause-resumes : goal.returns-clause-resumes
returns-clause-resumes g c = resumes_new c.args.epoch c.args.opened c.requires.epoch c.requires.moment
    (state_in c.in_ok-machine.machine) c.in_ok-machine.ensures
