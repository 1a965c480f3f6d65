-- Which bytes have a body's length and a reading: RFC 8259, as `serde_json` reads its `Value`.
use Rattle.std.specs.Prelude.{◌≡◌, ℕ, ◌≤◌, List, length, Some, IsUtf8}
use Rattle.serde_json.specs.Data.{Data}
use Rattle.serde_json.specs.Read.{read}
use Rattle.rv_json.specs.declared.fault.TextFault.{TextFault}
use Rattle.rv_json.specs.declared.fault.TextFault.TheVariants as fault

-- 1 to 65,535 bytes
abbrev pub HasBodyLength : List ℕ → Type 0
HasBodyLength bytes = (1 ≤ length bytes) × (length bytes ≤ 65535)

-- the bytes are a JSON text, and this is its value
abbrev pub Reads : List ℕ → Data → Type 0
Reads bytes value = IsUtf8 bytes × (read bytes ≡ Some value)

-- the bytes have no reading
abbrev pub IsNotJson : List ℕ → Type 0
IsNotJson bytes = (value : Data) → ¬ Reads bytes value

-- why bytes give no value: each fault with what it says of them
abbrev pub Unread : List ℕ → TextFault → Type 0
Unread bytes fault.NotJson = HasBodyLength bytes × IsNotJson bytes
Unread bytes fault.NotMessage = ¬ HasBodyLength bytes
Unread bytes fault.NoMemory = HasBodyLength bytes
