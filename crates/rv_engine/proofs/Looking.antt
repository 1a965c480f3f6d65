-- Numbers that are listed, where there is room.
use Rattle.std.proofs.Common.{◌≡◌, ◌⊎◌, ◌<◌, ◌≤◌, ◌+◌, ◌∷◌, ◌++◌, ◌∙◌, ℕ, List, [], Contains, ap, arith}
use Rattle.std.proofs.Common.{get_or, inl, inr}
use Rattle.std.proofs.Common.{length, subst, suc, sym, take}
use Rattle.std.proofs.lemmas.List.{take_all}
use Rattle.std.proofs.Math.Seq.{take-suc}
use Rattle.std.proofs.lemmas.List.Elements.{Contains-append_left, Contains-push, Contains-push_cases}
use Rattle.rv_server_connections.specs.Connections.{ListsOne}
use Rattle.rv_engine.specs.Handing.{AddsLooks}

alone : (n k : ℕ) → Contains (n ∷ []) k → k ≡ n
alone n k there = elim (Contains-push_cases [] n k there) [
  | inl among ↦ absurd (omega (arith, among.1))
  | inr own ↦ sym own
]

itself : (n k : ℕ) → k ≡ n → Contains (n ∷ []) k
itself n k same = (0, omega arith, sym same)

-- a number below the room is listed
pub adds_within : (room : ℕ) (old new : List ℕ) (n : ℕ) → n < room → ListsOne old n new
    → AddsLooks room old (n ∷ []) new
adds_within room old new n within lists k = (λ there. to ((lists k).0 there), from)
  where
    to : Contains old k ⊎ (k ≡ n) → Contains old k ⊎ (Contains (n ∷ []) k × (k < room))
    to (inl there) = inl there
    to (inr own) = inr (itself n k own, subst (λ m. m < room) (sym own) within)

    from : Contains old k ⊎ (Contains (n ∷ []) k × (k < room)) → Contains new k
    from (inl there) = (lists k).1 (inl there)
    from (inr own) = (lists k).1 (inr (alone n k own.0))

-- another isn't
pub adds_none : (room : ℕ) (old new : List ℕ) (n : ℕ) → room ≤ n → new ≡ old → AddsLooks room old (n ∷ []) new
adds_none room old new n past same k = (
  λ there. inl (subst (λ l. Contains l k) same there),
  from,
)
  where
    from : Contains old k ⊎ (Contains (n ∷ []) k × (k < room)) → Contains new k
    from (inl there) = subst (λ l. Contains l k) (sym same) there
    from (inr own) = absurd (omega (arith, alone n k own.0, own.1, past))

-- none more is listed at first
pub adds_nothing : (room : ℕ) (old : List ℕ) → AddsLooks room old [] old
adds_nothing room old k = (λ there. inl there, from)
  where
    from : Contains old k ⊎ (Contains [] k × (k < room)) → Contains old k
    from (inl there) = there
    from (inr none) = absurd (omega (arith, none.0.1))

-- one more is
pub adds_more : (room : ℕ) (old now new numbers : List ℕ) (i : ℕ) → i < length numbers
    → AddsLooks room old (take i numbers) now → AddsLooks room now (get_or numbers i 0 ∷ []) new
    → AddsLooks room old (take (i + 1) numbers) new
adds_more room old now new numbers i within all one =
    let next : i + 1 ≡ suc i = omega arith in
    subst (λ l. AddsLooks room old l new)
    (sym (ap (λ n. take n numbers) next ∙ take-suc numbers i 0 within)) each
  where
    each : AddsLooks room old (take i numbers ++ get_or numbers i 0 ∷ []) new
    each k = (λ there. to ((one k).0 there), from)
      where
        joined : Contains (take i numbers ++ get_or numbers i 0 ∷ []) k
            → Contains (take i numbers) k ⊎ (get_or numbers i 0 ≡ k)
        joined there = Contains-push_cases (take i numbers) (get_or numbers i 0) k there

        to : Contains now k ⊎ (Contains (get_or numbers i 0 ∷ []) k × (k < room))
            → Contains old k ⊎ (Contains (take i numbers ++ get_or numbers i 0 ∷ []) k × (k < room))
        to (inr own) = inr (
          subst (Contains (take i numbers ++ get_or numbers i 0 ∷ []))
              (sym (alone (get_or numbers i 0) k own.0))
              (Contains-push (take i numbers) (get_or numbers i 0)),
          own.1,
        )
        to (inl there) = elim ((all k).0 there) [
          | inl before ↦ inl before
          | inr among ↦ inr
              (Contains-append_left (take i numbers) (get_or numbers i 0 ∷ []) k among.0, among.1)
        ]

        from : Contains old k ⊎ (Contains (take i numbers ++ get_or numbers i 0 ∷ []) k × (k < room))
            → Contains new k
        from (inl before) = (one k).1 (inl ((all k).1 (inl before)))
        from (inr among) = elim (joined among.0) [
          | inl earlier ↦ (one k).1 (inl ((all k).1 (inr (earlier, among.1))))
          | inr own ↦ (one k).1 (inr (itself (get_or numbers i 0) k (sym own), among.1))
        ]

pub adds_whole : (room : ℕ) (old new numbers : List ℕ) (i : ℕ) → length numbers ≤ i
    → AddsLooks room old (take i numbers) new → AddsLooks room old numbers new
adds_whole room old new numbers i past all =
    subst (λ l. AddsLooks room old l new) (take_all i numbers past) all
