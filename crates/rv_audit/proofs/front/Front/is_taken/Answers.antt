use Rattle.rv_audit.proofs.Words.{◌<◌, ◌∙◌, ap, arith, length, nat_tests, passed_account, slice_get, sym}
use Rattle.rv_audit.proofs.Words.{Some}
use Rattle.std.proofs.lemmas.Option.{slice_get-get_or}
use Rattle.rv_audit.proofs.Telling.{taken_there}
use Rattle.rv_audit.proofs.front.Front.is_taken.Goals as goal

pub returns-in-Some : goal.returns-in-Some
returns-in-Some c =
    let found = c.in-Some.ensures.lookup in
    let test = found.0 in
    let inside : c.args.place < length c.deref.result.now = grind (arith, nat_tests) in
    taken_there (passed_account c.args.self.now).entries c.args.self.now.taken.items c.args.place
    c.in-Some.taken.now c.requires.taken
    (ap (λ l. slice_get l c.args.place) (sym c.deref.ensures.value)
    ∙ slice_get-get_or c.deref.result.now c.args.place _ inside ∙ ap Some (sym found.1))
