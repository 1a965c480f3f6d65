-- What was read says an entry.
use Rattle.std.proofs.Common.{Result, Ok, Err, IfOk, IsOk}
use Rattle.rv_account.specs.declared.entry.Entry.{Entry}
use Rattle.rv_book.specs.declared.lines.fault.LineFault.{LineFault}

pub read_there : (read : Result Entry LineFault) (Says : Entry → Type 0) → IsOk read → IfOk read Says
    → (e : Entry) × Says e
read_there (Ok e) Says there says = (e, says)
read_there (Err fault) Says there says = absurd (cc)
