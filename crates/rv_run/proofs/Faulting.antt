-- Where a fault is told as a run's, what is known of a value stays known, and the new fault is what is made
-- of the old.
use Rattle.std.proofs.Common.{◌≡◌, Result, Ok, Err, IfErr, IfOk, sym, subst}
use Rattle.std.specs.Result.{IsErrAnd, MatchResult}
use Rattle.std.proofs.lemmas.Result.{err_from_is_err_and}

pub kept_ok : {T E D : Type 0} (Q : E → D → Type 0) (r : Result T E) (told : Result T D) (P : T → Type 0)
    → MatchResult r (λ x. told ≡ Ok x) (λ e. IsErrAnd told (Q e)) → IfOk r P → IfOk told P
kept_ok Q (Ok x) told P same ok = subst (λ t. IfOk t P) (sym same) ok
kept_ok Q (Err e) told P fault ok = let exit = err_from_is_err_and told fault in subst (λ t. IfOk t P)
    (sym exit.1) tt

pub told_fault : {T E D : Type 0} (Q : E → D → Type 0) (r : Result T E) (told : Result T D) (P : D → Type 0)
    → ((e : E) (fault : D) → Q e fault → P fault)
    → MatchResult r (λ x. told ≡ Ok x) (λ e. IsErrAnd told (Q e)) → IfErr told P
told_fault Q (Ok x) told P gives same = subst (λ t. IfErr t P) (sym same) tt
told_fault Q (Err e) told P gives fault = let exit = err_from_is_err_and told fault in subst (λ t. IfErr t P)
    (sym exit.1) (gives e exit.0 exit.2)
