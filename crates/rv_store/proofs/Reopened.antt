-- A file that was opened, or whose lines were refused.
use Rattle.rv_journal.specs.Faults.{IfRefused}
use Rattle.rv_journal.specs.declared.fault.OpenFault.{OpenFault}
use Rattle.rv_journal.specs.declared.fault.OpenFault.TheVariants as told

pub on_refused : {F : Type 0} (why : OpenFault F) (P Q : F → Type 0) → ((f : F) → P f → Q f) → IfRefused why P
    → IfRefused why Q
on_refused (told.Refused f) P Q so p = so f p
on_refused told.NotFilled P Q so p = tt
on_refused (told.Device f) P Q so p = tt
