-- The fault of a line by that of its text, and the fault of an account by that of a line.
use Rattle.rv_json.specs.declared.fault.TextFault.{TextFault}
use Rattle.rv_json.specs.declared.fault.TextFault.TheVariants as text
use Rattle.rv_book.specs.declared.lines.fault.LineFault.{LineFault}
use Rattle.rv_book.specs.declared.lines.fault.LineFault.TheVariants as line

-- a text that could not be read for want of memory is not a bad one
abbrev pub line_fault : TextFault → LineFault
line_fault text.NotJson = line.Bad
line_fault text.NotMessage = line.Bad
line_fault text.NoMemory = line.NoMemory
