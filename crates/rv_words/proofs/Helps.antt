-- What clap says of words is one of their faults, unless memory was refused.
use Rattle.std.proofs.Common.{◌≡◌, inl, inr}
use Rattle.clap.specs.Words.{HasKind, IsAmong, kind_of}
use Rattle.clap.specs.Kinds.{Kinds}
use Rattle.clap.specs.declared.error.Error.{Error}
use Rattle.clap.specs.declared.error.kind.ErrorKind.TheVariants.{OutOfMemory}

pub is_among : (kinds : Kinds) (error : Error) → HasKind kinds error → ¬ (kind_of error ≡ OutOfMemory)
    → IsAmong (kind_of error) kinds
is_among kinds error (inl out) not_out = absurd (not_out out)
is_among kinds error (inr among) not_out = among
