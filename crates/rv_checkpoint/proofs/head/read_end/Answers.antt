-- The numbers are found where the fields have them.
use Rattle.std.proofs.Common.{List, ℕ, refl, subst}
use Rattle.rv_text.specs.Number.{WritesUpTo}
use Rattle.rv_checkpoint.specs.Fields.{max_field}
use Rattle.rv_checkpoint.proofs.Cuts.{cut_one}
use Rattle.rv_checkpoint.proofs.head.read_end.Goals as goal

pub returns-in_err-opens-clause-none : goal.returns-in_err-opens-clause-none
returns-in_err-opens-clause-none c none opens clients says =
    c.in_err-opens.ensures.none refl opens says.field says.places

pub returns-in_err-clients-clause-none : goal.returns-in_err-clients-clause-none
returns-in_err-clients-clause-none c none opens clients says =
    let same = cut_one says.places c.in_ok-opens.ensures.some in
    c.in_err-clients.ensures.none refl clients
    (subst (λ (l : List ℕ). WritesUpTo max_field l clients) same.1 says.known)
