-- The versions of messages, by their numbers.
use Rattle.std.specs.Prelude.{ℕ, ◌==◌, Option, Some, None, if◌then◌else◌}
use Rattle.rv_text.specs.declared.version.Version.{Version}
use Rattle.rv_text.specs.declared.version.Version.TheVariants.{One, Two}

abbrev pub number_of_version : Version → ℕ
number_of_version One = 1
number_of_version Two = 2

-- the version with this number; there is none but 1 and 2
abbrev pub version_of : ℕ → Option Version
version_of n = if n == 1 then Some One else if n == 2 then Some Two else None
