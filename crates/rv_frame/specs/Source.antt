-- What a clause reads of a `Source`: its device, whether a read failed, and the bytes that are left.
use Rattle.std.specs.Prelude.{ℕ, Bool, List, Option}
use Rattle.std.specs.Io.KnownBytes.{Consumes, IsAtEnd}
use Rattle.rv_frame.specs.declared.source.Source.{Source}

-- the reader that the source reads from
abbrev pub source_device : {R : Type 0} → Source R → R
source_device source = source.device

-- a read of the device failed
abbrev pub source_failed : {R : Type 0} → Source R → Bool
source_failed source = source.failed

-- the bytes that the device has left, where they are known, by its `R.remaining`
abbrev pub source_remaining : {R : Type 0} → (R → Option (List ℕ)) → Source R → Option (List ℕ)
source_remaining remaining source = remaining source.device

-- the source gave exactly these bytes, where what it has left is known
abbrev pub SourceGives : {R : Type 0} → (R → Option (List ℕ)) → Source R → Source R → List ℕ → Type 0
SourceGives remaining old new bytes =
    Consumes (source_remaining remaining old) (source_remaining remaining new) bytes

-- the source has nothing more, where what it has left is known
abbrev pub SourceHasEnded : {R : Type 0} → (R → Option (List ℕ)) → Source R → Type 0
SourceHasEnded remaining source = IsAtEnd (source_remaining remaining source)
