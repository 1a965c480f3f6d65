-- The first entry that stops a request: that it is one, and stays.
use Rattle.rv_account.proofs.OfRules.Words.{◌≡◌, ◌<◌, ◌∷◌, ◌++◌, ◌∙◌, inl, inr, ℕ, List, [], length, sym, ap}
use Rattle.rv_account.proofs.OfRules.Words.{arith, slice_get, cases_order, same_Some, Entry, Stopped}
use Rattle.rv_account.proofs.OfRules.Words.{StoppedAt}
use Rattle.rv_text.specs.declared.answer.Reply.{Reply}
use Rattle.rv_account.specs.rules.Replies.{FirstStop, ToldStopped, told_by}
use Rattle.rv_account.proofs.OfRules.Growing.{StoppedAt-back, StoppedAt-on}
use Rattle.rv_account.proofs.OfRules.Places.{get-append_end, within}

-- ---- it is one

one_first : (es : List Entry) (r s t : ℕ) → FirstStop es r s → FirstStop es r t → s ≡ t
one_first es r s t first second = elim (cases_order s t) [
  | inl same ↦ same
  | inr differ ↦ elim differ [
    | inl less ↦ absurd (second.first s less first.stops)
    | inr more ↦ absurd
        (first.first t more second.stops)
  ]
]

pub one_told_stopped : (es : List Entry) (r : ℕ) (x y : Reply) → ToldStopped es r x → ToldStopped es r y
    → y ≡ x
one_told_stopped es r x y first second =
    let place : second.place ≡ first.place = one_first es r second.place first.place second.stop first.stop in
    let stopper : second.stop.stops.stopper ≡ first.stop.stops.stopper = same_Some _ _
    (sym second.stop.stops.there ∙ ap (slice_get es) place ∙ first.stop.stops.there) in
    second.is ∙ ap (λ (e : Entry). told_by e.act) stopper ∙ sym first.is

-- ---- it stays

pub told_on : (es more : List Entry) (r : ℕ) (told : Reply) → ToldStopped es r told
    → ToldStopped (es ++ more) r told
unfolding StoppedAt-on
told_on es more r told h =
    let s = h.place in
    let inside : s < length es = within es s h.stop.stops.stopper h.stop.stops.there in
    let stop : FirstStop (es ++ more) r s = record {
      stops = StoppedAt-on es more r s h.stop.stops;
      first = λ earlier less stopped. h.stop.first earlier less (StoppedAt-back es more r earlier
          (omega arith) stopped);
    } in
    record { place = s; stop = stop; is = h.is }

-- ---- the last entry is the first that stops a request that wasn't stopped

pub told_by_last : (es : List Entry) (e : Entry) (r : ℕ) → (Stopped es r → ⊥)
    → StoppedAt (es ++ e ∷ []) r (length es) → ToldStopped (es ++ e ∷ []) r (told_by e.act)
told_by_last es e r unstopped stopped =
    let own : e ≡ stopped.stopper = same_Some _ _ (sym (get-append_end es e) ∙ stopped.there) in
    let stop : FirstStop (es ++ e ∷ []) r (length es) = record {
      stops = stopped;
      first = λ earlier less before. unstopped (earlier, StoppedAt-back es (e ∷ []) r earlier less before);
    } in
    record { place = length es; stop = stop; is = ap (λ (x : Entry). told_by x.act) own }
