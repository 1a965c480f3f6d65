-- Whole lines are read to their end, or to a fault.
use Rattle.std.proofs.Common.{Some, refl}
use Rattle.rv_verify.specs.declared.ongoing.Pause.TheVariants as pause
use Rattle.rv_store.proofs.ReadOn.{ends_bad, ends_whole, reads_text}
use Rattle.rv_store.proofs.reader.read_lines_on.Goals as goal

pub returns-in-Ok-End-clause-read : goal.returns-in-Ok-End-clause-read
returns-in-Ok-End-clause-read c read has =
    let left = Some c.read_on.new.reader.now in
    ends_whole read c.args.lines.now c.read_on.new.self c.read_on.new.records left c.requires.whole
    (reads_text read c.args.lines.now c.read_on.new.self c.read_on.new.records left c.args.audit.piece.items
    c.in-Ok-End.field-0 pause.End has.none_kept c.in-Ok-End.field-0-is
    (c.in-Ok-End.ensures.read read c.args.lines.now has.part refl))

pub returns-in-Ok-Fault-clause-refused : goal.returns-in-Ok-Fault-clause-refused
returns-in-Ok-Fault-clause-refused c read has =
    let left = Some c.read_on.new.reader.now in
    ends_bad read c.args.lines.now c.read_on.new.self c.read_on.new.records left c.break_off.result
    (reads_text read c.args.lines.now c.read_on.new.self c.read_on.new.records left c.args.audit.piece.items
    c.in-Ok-Fault.field-0 pause.Fault has.none_kept c.in-Ok-Fault.field-0-is
    (c.in-Ok-Fault.ensures.read read c.args.lines.now has.part refl)) c.break_off.ensures.found
    c.break_off.ensures.fault
