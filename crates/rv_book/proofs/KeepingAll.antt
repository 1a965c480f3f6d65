-- What is kept of a client once that of some clients was kept.
use Rattle.std.proofs.Common.{◌≡◌, ◌⊎◌, ◌∷◌, ◌∙◌, inl, inr, ℕ, zero, suc, List, [], Option, Some, None}
use Rattle.std.proofs.Common.{IsSome, refl}
use Rattle.std.proofs.Common.{◌<◌, ◌+◌, sym, ap, is_some, length, take, get_or}
use Rattle.std.proofs.lemmas.Bool.{false≢true}
use Rattle.std.proofs.lemmas.List.Sums.{fold_more}
use Rattle.std.proofs.lemmas.Option.{none-some, same_Some, slice_get-get_or}
use Rattle.std.specs.FinMap.{get, insert}
use Rattle.std.specs.List.{slice_get}
use Rattle.rv_session.specs.declared.kept.Kept.{Kept}
use Rattle.rv_text.specs.declared.message.Key.{Key}
use Rattle.rv_account.proofs.OfRules.Numbers.{same_or_not}
use Rattle.rv_account.specs.state.State.{State}
use Rattle.rv_account.proofs.OfState.ToldClients.{get_own, get_other}
use Rattle.rv_book.specs.Operations.{AreKnown, Kepts, kept_in, keeping, keeping_all}

-- one of these keys is the client's
abbrev pub IsAmong : List Key → ℕ → Type 0
IsAmong keys client = (i : ℕ) × (key : Key) × (slice_get keys i ≡ Some key) × (key.client ≡ client)

-- of a client of which nothing was kept so far, nothing was
pub still_none : (s : State) (place : ℕ) (keys : List Key) (kepts then : Kepts) (q : ℕ)
    → then ≡ keeping_all s place kepts keys → get then q ≡ None → get kepts q ≡ None
still_none s place [] kepts then q is none = sym (ap (λ (m : Kepts). get m q) is) ∙ none
still_none s place (key ∷ keys) kepts then q is none =
    let before = still_none s place keys (keeping s place kepts key.client) then q is none in
    elim (same_or_not q key.client) [
      | inl same ↦ absurd (none-some _
          (sym before ∙ get_own kepts key.client (kept_in s place key.client) q same))
      | inr other ↦ sym (get_other kepts key.client (kept_in s place key.client) q other) ∙ before
    ]

-- what is kept of a client is what it was told now, if it is among them, and else what it was
module _ (s : State) (place : ℕ) where
  abbrev IsKeptNow : Kepts → List Key → ℕ → Type 0
  IsKeptNow kepts keys q =
      IsAmong keys q × (get (keeping_all s place kepts keys) q ≡ Some (kept_in s place q))

  abbrev IsKeptStill : Kepts → List Key → ℕ → Type 0
  IsKeptStill kepts keys q =
      (IsAmong keys q → ⊥) × (get (keeping_all s place kepts keys) q ≡ get kepts q)

  not_among : (key : Key) (keys : List Key) (q : ℕ) → (q ≡ key.client → ⊥) → (IsAmong keys q → ⊥)
      → IsAmong (key ∷ keys) q → ⊥
  not_among key keys q other none (zero, one, there, same) =
      other (sym (ap (λ (k : Key). k.client) (same_Some _ _ there) ∙ same))
  not_among key keys q other none (suc i, one, there, same) = none (i, one, there, same)

  pub kept_or_was : (keys : List Key) (kepts : Kepts) (q : ℕ)
      → IsKeptNow kepts keys q ⊎ IsKeptStill kepts keys q
  kept_or_was [] kepts q = inr (λ among. none-some among.1 among.2, refl)
  kept_or_was (key ∷ keys) kepts q = elim (kept_or_was keys (keeping s place kepts key.client) q) [
    | inl now ↦ inl ((suc now.0.0, now.0.1, now.0.2, now.0.3), now.1)
    | inr still ↦ elim (same_or_not q key.client) [
      | inl same ↦ inl (
        (0, key, refl, sym same),
        still.1 ∙ get_own kepts key.client (kept_in s place key.client) q same
            ∙ ap (λ c. Some (kept_in s place c)) (sym same),
      )
      | inr other ↦ inr (
        not_among key keys q other still.0,
        still.1 ∙ get_other kepts key.client (kept_in s place key.client) q other,
      )
    ]
  ]

-- ---- key by key

module _ (s : State) (place : ℕ) (kepts : Kepts) (keys : List Key) (i : ℕ) (d : Key) (now : Kepts)
    (all : AreKnown s kepts keys) (inside : i < length keys)
    (so_far : now ≡ keeping_all s place kepts (take i keys)) where
  abbrev key : Key
  key = get_or keys i d

  there : slice_get keys i ≡ Some key
  there = slice_get-get_or keys i d inside

  -- something is kept of the next one's client
  pub known_of : get now key.client ≡ None → ⊥
  known_of none =
      false≢true (sym (ap is_some (still_none s place (take i keys) kepts now key.client so_far none))
      ∙ all.kept i key there)

  pub known_in : IsSome (get now key.client)
  known_in = by_look (get now key.client) refl
    where
      by_look : (o : Option (Option Kept)) → get now key.client ≡ o → IsSome o
      by_look None none = absurd (known_of none)
      by_look (Some kept) is = refl

  pub keeping_more : (then : Kepts) → then ≡ insert now key.client (kept_in s place key.client)
      → then ≡ keeping_all s place kepts (take (i + 1) keys)
  keeping_more then is =
      is ∙ ap (λ (m : Kepts). keeping s place m key.client) so_far
      ∙ sym (fold_more (λ m k. keeping s place m k.client) kepts keys i d inside)
