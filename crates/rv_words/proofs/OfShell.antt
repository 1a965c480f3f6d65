-- Each command is one of which clap tells each fault, and an error of clap's is one of its faults.
use Rattle.std.proofs.Common.{◌≡◌, List, inl, inr, refl, subst, sym, true}
use Rattle.std.specs.Prelude.{◌⊎◌}
use Rattle.clap.proofs.OnLiterals.{clap_on_literals}
use Rattle.clap.specs.Words.{HasKind, IsAmong, Text, fault_of, is_simple, is_simple_and_free, kind_of}
use Rattle.clap.specs.declared.error.Error.{Error}
use Rattle.clap.specs.declared.error.kind.ErrorKind.{ErrorKind}
use Rattle.clap.specs.declared.error.kind.ErrorKind.TheVariants.{OutOfMemory}
use Rattle.rv_words.specs.shell.Faults.{IsShellFault, shell_fault_by}
use Rattle.rv_words.specs.shell.Words.{shell_app}
use Rattle.rv_words.specs.declared.shell.fault.ShellFault.{ShellFault}
use Rattle.rv_words.specs.declared.shell.word.ShellWord.{ShellWord}
use Rattle.rv_words.specs.declared.shell.word.ShellWord.TheVariants.{Bench, Count, Drain, Peek, Put}
use Rattle.rv_words.specs.declared.shell.word.ShellWord.TheVariants.{Swap, Take, Transfer}

pub simple_and_free : (word : ShellWord) → is_simple_and_free (shell_app word) ≡ true
unfolding clap_on_literals
simple_and_free Put = refl
simple_and_free Take = refl
simple_and_free Transfer = refl
simple_and_free Drain = refl
simple_and_free Count = refl
simple_and_free Peek = refl
simple_and_free Swap = refl
simple_and_free Bench = refl

pub simple : (word : ShellWord) → is_simple (shell_app word) ≡ true
unfolding clap_on_literals
simple Put = refl
simple Take = refl
simple Transfer = refl
simple Drain = refl
simple Count = refl
simple Peek = refl
simple Swap = refl
simple Bench = refl

by_kind : (word : ShellWord) (own : List Text) (error : Error) (kind : ErrorKind)
    → (kind ≡ OutOfMemory) ⊎ IsAmong kind (fault_of (shell_app word) own) → kind ≡ kind_of error
    → IsShellFault word own (shell_fault_by kind error)
by_kind word own error OutOfMemory has is = tt
by_kind word own error kind (inl out) is = absurd (cc)
by_kind word own error kind (inr among) is =
    subst (λ (k : ErrorKind). IsAmong k (fault_of (shell_app word) own)) is among

pub refused_as : (word : ShellWord) (own : List Text) (error : Error) (fault : ShellFault)
    → fault ≡ shell_fault_by (kind_of error) error → HasKind (fault_of (shell_app word) own) error
    → IsShellFault word own fault
refused_as word own error fault is has =
    subst (λ (f : ShellFault). IsShellFault word own f) (sym is) (by_kind word own error (kind_of error) has
    refl)
