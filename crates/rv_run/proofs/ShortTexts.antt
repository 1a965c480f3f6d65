-- Texts that fit a printed line.
use Rattle.std.proofs.Common.{◌≡◌, ◌<◌, ◌≤◌, ◌^◌, ◌++◌, ℕ, List, ap, arith, length, length-append}
use Rattle.std.specs.Fmt.{decimal}
use Rattle.std.proofs.lemmas.Fmt.{length-decimal-le}
use Rattle.rv_run.specs.Output.{IsShort}

-- a number after a few letters
pub number_is_short : (text word : List ℕ) (n : ℕ) → text ≡ word ++ decimal n → length word ≤ 20 → n < 2 ^ 64
    → IsShort text
number_is_short text word n is few small =
    omega (
      arith,
      ap length is,
      length-append word (decimal n),
      few,
      length-decimal-le 20 n (omega arith)
          (omega arith) small,
    )
