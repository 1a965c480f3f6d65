-- The accounts of a world: their epochs rise, so each epoch has one; and each is legal.
use Rattle.rv_world.proofs.OfParts.Words.{◌≡◌, ◌<◌, ◌∷◌, ◌++◌, ◌∙◌, inl, inr, ℕ, List, [], length, Some, sym}
use Rattle.rv_world.proofs.OfParts.Words.{ap, subst, arith, Contains, slice_get, none-some, same_Some, Key}
use Rattle.rv_world.proofs.OfParts.Words.{Call, Account, Legal, get-append_cases, World, accounts}
use Rattle.rv_world.proofs.OfParts.Words.{empty_account, WasAsked, ArrivesAt}
use Rattle.std.proofs.lemmas.Bool.{cases_order}
use Rattle.rv_account.proofs.OfRules.Places.{get-append, get-append_end, within}
use Rattle.rv_world.specs.parts.Headline.{LegalAccounts}
use Rattle.rv_world.specs.parts.Sound.{EpochsRise}
use Rattle.rv_world.proofs.OfParts.Listing.{place_of, stands_at}

-- ---- epochs that rise

abbrev pub Rises : List Account → Type 0
Rises list = (i j : ℕ) (a b : Account) → slice_get list i ≡ Some a → slice_get list j ≡ Some b → i < j
    → a.epoch < b.epoch

-- with a greater one after them
pub rises_push : (list : List Account) (x : Account) → Rises list
    → ((a : Account) → Contains list a → a.epoch < x.epoch) → Rises (list ++ x ∷ [])
rises_push list x rises above i j a b there also less = elim (get-append_cases list x b j also) [
  | inl second ↦ elim (get-append_cases list x a i there) [
    | inl first ↦ rises i j a b first.1 second.1 less
    | inr last ↦ let at = last.0 in let inside = second.0 in absurd (omega (arith, at, inside, less))
  ]
  | inr end ↦ elim (get-append_cases list x a i there) [
    | inl first ↦ subst (λ (c : Account). a.epoch < c.epoch) end.1 (above a (stands_at list i a first.1))
    | inr last ↦ let at = last.0 in let behind = end.0 in absurd (omega (arith, at, behind, less))
  ]
]

pub rises_none : Rises []
rises_none i j a b there also less = absurd (none-some a there)

pub rises_front : (list : List Account) (x : Account) → Rises (list ++ x ∷ []) → Rises list
rises_front list x rises i j a b there also less = rises i j a b (get-append list (x ∷ []) i a there)
    (get-append list (x ∷ []) j b also) less

-- the last is the greatest
pub below_last : (list : List Account) (x a : Account) → Rises (list ++ x ∷ []) → Contains list a
    → a.epoch < x.epoch
below_last list x a rises there =
    let at = place_of list a there in
    rises at.0 (length list) a x (get-append list (x ∷ []) at.0 a at.1) (get-append_end list x)
    (within list at.0 a at.1)

one_each : (list : List Account) (a b : Account) → Rises list → Contains list a → Contains list b
    → a.epoch ≡ b.epoch → a ≡ b
one_each list a b rises there also same =
    let i = place_of list a there in
    let j = place_of list b also in
    elim (cases_order i.0 j.0) [
      | inl at ↦ same_Some _ _ (sym i.1 ∙ ap (slice_get list) at ∙ j.1)
      | inr differ ↦ elim differ [
        | inl less ↦ let below : a.epoch < b.epoch = rises i.0 j.0 a b i.1 j.1 less in
            absurd (omega (arith, same))
        | inr more ↦ let below : b.epoch < a.epoch = rises j.0 i.0 b a j.1 i.1 more in
            absurd (omega (arith, same))
      ]
    ]

-- ---- legal accounts

-- the account is legal, and what arrived there was asked
pub record IsLegalIn (w : World) (a : Account) : Type 0 where
  pub legal : Legal a
  pub asked : (r : ℕ) (key : Key) (call : Call) → ArrivesAt a.entries key r call → WasAsked w key call

pub legal_accounts : (w : World) → EpochsRise w → ((a : Account) → Contains (accounts w) a → IsLegalIn w a)
    → LegalAccounts w
legal_accounts w rises each = record {
  one_each = λ a b there also same. one_each (accounts w) a b rises there also same;
  legal = λ a there. (each a there).legal;
  arrivals_asked = λ a r key call there arrived. (each a there).asked r key call arrived;
}

-- what was legal stays so where no call is forgotten
pub still_legal : (w v : World) (a : Account) → LegalAccounts w
    → ((key : Key) (call : Call) → WasAsked w key call → WasAsked v key call) → Contains (accounts w) a
    → IsLegalIn v a
still_legal w v a all asked_on there = record {
  legal = all.legal a there;
  asked = λ r key call arrived. asked_on key call (all.arrivals_asked a r key call there arrived);
}

pub empty_legal : (w : World) (epoch : ℕ) → IsLegalIn w (empty_account epoch)
empty_legal w epoch = record {
  legal = λ j e there. absurd (none-some e there);
  asked = λ r key call arrived. absurd (none-some _ arrived);
}
