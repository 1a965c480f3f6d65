-- clap tells each fault of such a command.
use Rattle.std.proofs.Common.{◌≡◌, inl, inr, subst}
use Rattle.clap.specs.Words.{HasKind}
use Rattle.std.proofs.lemmas.Result.{err_from_is_err_and}
use Rattle.rv_words.specs.declared.fault.CommandFault.TheVariants.{NoMemory}
use Rattle.rv_words.proofs.reading.taken.Goals as goal

pub returns-clause-taken : goal.returns-clause-taken
returns-clause-taken c = c.in_ok-try_get_matches_from.ensures.kinds c.requires

pub returns-clause-found : goal.returns-clause-found
returns-clause-found c = c.in_ok-try_get_matches_from.ensures.matches

pub returns-in_err-try_get_matches_from-clause-bad : goal.returns-in_err-try_get_matches_from-clause-bad
returns-in_err-try_get_matches_from-clause-bad c bad none =
    let exit = err_from_is_err_and c.from_residual.result c.from_residual.ensures.1 in
    elim (subst (λ ks. HasKind ks c.in_err-try_get_matches_from.field-0.0) none
    (c.in_err-try_get_matches_from.ensures.kinds c.requires)) [
      | inl out ↦ let no_memory : exit.0 ≡ NoMemory = exit.2.0 out in (cc)
      | inr nothing ↦ nothing
    ]
