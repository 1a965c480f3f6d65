-- An error of clap's is one of the faults of its words.
use Rattle.std.proofs.Common.{◌≡◌, Err, IfErr, List, Result, inl, inr, refl, subst, sym}
use Rattle.clap.specs.Words.{IsAmong, Text, fault_of, kind_of}
use Rattle.clap.specs.Kinds.{HasKind}
use Rattle.clap.specs.declared.error.Error.{Error}
use Rattle.clap.specs.declared.error.kind.ErrorKind.{ErrorKind}
use Rattle.clap.specs.declared.error.kind.ErrorKind.TheVariants.{OutOfMemory}
use Rattle.std.specs.Prelude.{◌⊎◌}
use Rattle.rv_words.specs.options.Words.{host_app}
use Rattle.rv_words.specs.options.Faults.{IsFault, fault_by}
use Rattle.rv_words.specs.declared.options.fault.HostFault.{HostFault}

by_kind : (words : List Text) (error : Error) (kind : ErrorKind)
    → (kind ≡ OutOfMemory) ⊎ IsAmong kind (fault_of host_app words) → kind ≡ kind_of error
    → IsFault words (fault_by kind error)
by_kind words error OutOfMemory has is = tt
by_kind words error kind (inl out) is = absurd (cc)
by_kind words error kind (inr among) is = subst (λ (k : ErrorKind). IsAmong k (fault_of host_app words)) is
    among

pub refused_as : (words : List Text) (error : Error) (fault : HostFault)
    → fault ≡ fault_by (kind_of error) error → HasKind (fault_of host_app words) error → IsFault words fault
refused_as words error fault is has =
    subst (λ (f : HostFault). IsFault words f) (sym is) (by_kind words error (kind_of error) has refl)

pub fails_by : {T E : Type 0} (P : E → Type 0) (result : Result T E) (fault : E) → result ≡ Err fault
    → P fault
    → IfErr result P
fails_by {T} {E} P result fault is holds = subst (λ (r : Result T E). IfErr r P) (sym is) holds
