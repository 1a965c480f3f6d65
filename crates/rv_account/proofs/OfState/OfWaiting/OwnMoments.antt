-- In a state to resume from nothing is due at its own moment.
use Rattle.std.proofs.Common.{◌≡◌, ◌<◌, ◌∷◌, [], List, Some, ap, arith, refl, slice_get}
use Rattle.rv_account.specs.state.After.{due_at}
use Rattle.rv_account.specs.state.State.{OpenPlace, State}
use Rattle.rv_account.proofs.OfState.DueAt.{due_place}
use Rattle.rv_account.proofs.OfState.PlacesLeft.{among_place}
use Rattle.rv_account.specs.state.resume.Resuming.{CanResume}

none_by : (s : State) → CanResume s → (due : List OpenPlace) → due_at s s.moment ≡ due → due ≡ []
none_by s is [] same = refl
none_by s is (first ∷ others) same =
    let at : slice_get (due_at s s.moment) 0 ≡ Some first = ap (λ (l : List OpenPlace). slice_get l 0) same in
    let due = due_place s s.moment first.place (among_place (due_at s s.moment) 0 first at) in
    let after : s.moment < due.limit = is.undue due.there due.limit (due.i, due.stands) due.has in
    let before = due.elapsed in
    absurd (let no : ⊥ = omega (arith, after, before) in no)

pub none_due_now : (s : State) → CanResume s → due_at s s.moment ≡ []
none_due_now s is = none_by s is (due_at s s.moment) refl
