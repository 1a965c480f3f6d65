-- All that was made is written, or nothing is done.
use Rattle.std.proofs.Common.{◌∙◌, ap}
use Rattle.rv_machine.specs.declared.machine.Machine.{Machine}
use Rattle.rv_machine.specs.Machines.{state_in}
use Rattle.rv_hub.proofs.Acting.{writes_all, writes_none}
use Rattle.rv_hub.proofs.handling.write_all.Goals as goal

pub returns-then-not-has_journal-clause-writes : goal.returns-then-not-has_journal-clause-writes
returns-then-not-has_journal-clause-writes c =
    writes_all c.args.dispatcher.now c.write.new.self c.args.has_journal _ c.if-not-has_journal.true
    (c.length-entries.ensures ∙ ap (λ (m : Machine). (state_in m).length) c.machine.ensures)
    c.write.ensures.writes

pub returns-else-not-has_journal-clause-writes : goal.returns-else-not-has_journal-clause-writes
returns-else-not-has_journal-clause-writes c =
    writes_none c.args.dispatcher.now c.args.has_journal c.if-not-has_journal.false
