-- A client that is found among those that rise is the one with its number.
use Rattle.std.proofs.Common.{◌≡◌, ◌↔◌, ◌<◌, ◌∙◌, ℕ, List, Bool, false, IsTrue, Some, None, inl, inr, sym, ap}
use Rattle.std.proofs.Common.{subst}
use Rattle.std.proofs.Common.{arith, get_or, slice_get}
use Rattle.std.proofs.lemmas.Bool.{cases_order, false≢true}
use Rattle.std.proofs.lemmas.Option.{get_or_from_slice_get}
use Rattle.rv_account.specs.state.State.{ClientState, OpenPlace, Waiter}
use Rattle.rv_account.proofs.OfState.Words.{same_Some}
use Rattle.rv_session.specs.ClientOrder.{ClientsRise}
use Rattle.rv_account.specs.state.resume.Checking.{IsFoundAt, IsLastAmong, IsLastOf}

pub one_client : (clients : List (ℕ × ClientState)) → ClientsRise clients → (i j : ℕ) (x y : ℕ × ClientState)
    → slice_get clients i ≡ Some x → slice_get clients j ≡ Some y → x.0 ≡ y.0 → x ≡ y
one_client clients rise i j x y at there same = elim (cases_order i j) [
  | inl equal ↦ same_Some _ _ (sym at ∙ ap (slice_get clients) equal ∙ there)
  | inr differ ↦ elim differ [
    | inl less ↦ let up : x.0 < y.0 = rise i j x y less at there in absurd (omega (arith, same))
    | inr more ↦ let up : y.0 < x.0 = rise j i y x more there at in absurd (omega (arith, same))
  ]
]

module _ (epoch : ℕ) (clients : List (ℕ × ClientState)) (there : OpenPlace) (w : Waiter) where
  abbrev Found : ℕ → Type 0
  Found index = IsFoundAt (λ (c : ℕ × ClientState). c.0) clients w.key.client (Some index)

  pub found_last : ClientsRise clients → (index : ℕ) → Found index → (d : ℕ × ClientState) (r : Bool)
      → IsTrue r ↔ IsLastOf epoch there w (get_or clients index d).1
      → IsTrue r ↔ IsLastAmong epoch clients there w
  found_last rise index found d r last =
      let x = found.0 in
      let here : get_or clients index d ≡ x = get_or_from_slice_get clients index x d found.1 in (
        λ is. record {
          i = index;
          session = x.1;
          known = found.1 ∙ (λ i. Some (found.2 i, x.1));
          last = subst (λ (c : ℕ × ClientState). IsLastOf epoch there w c.1) here (last.0 is);
        },
        λ own.
            let same = one_client clients rise own.i index (w.key.client, own.session) x own.known found.1
            (sym found.2) in
            last.1 (subst (λ (c : ℕ × ClientState). IsLastOf epoch there w c.1) (same ∙ sym here) own.last),
      )

  pub none_last : IsFoundAt (λ (c : ℕ × ClientState). c.0) clients w.key.client None
      → IsTrue false ↔ IsLastAmong epoch clients there w
  none_last none = (
    λ is. absurd (false≢true is),
    λ own. absurd (none own.i (w.key.client, own.session) own.known (λ i. w.key.client)),
  )
