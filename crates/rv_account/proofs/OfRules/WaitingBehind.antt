-- How many requests wait after one entry more, and so how many entries those there are may still need.
use Rattle.rv_account.proofs.OfRules.Words.{◌≡◌, ◌⊎◌, ◌+◌, ◌<◌, ◌≤◌, ◌∷◌, ◌++◌, ◌∙◌, inl, inr, ℕ, List, []}
use Rattle.rv_account.proofs.OfRules.Words.{length}
use Rattle.rv_account.proofs.OfRules.Words.{Some, None, refl, sym, subst, arith, none-some, same_Some, Call}
use Rattle.rv_account.proofs.OfRules.Words.{Entry}
use Rattle.rv_account.proofs.OfRules.Words.{Account, call_in, IsPut, Legal, NumberOf, Stays, StoppedAt}
use Rattle.rv_account.proofs.OfRules.Words.{Waiting}
use Rattle.rv_text.specs.Calls.{wait_of}
use Rattle.rv_account.specs.Account.{with_entry}
use Rattle.rv_account.specs.Calls.{need_of}
use Rattle.rv_account.proofs.OfRules.Deciding.{waits_or_not}
use Rattle.rv_account.proofs.OfRules.Growing.{call_read, reads_within}
use Rattle.rv_account.proofs.OfRules.Legality.{follows_itself}
use Rattle.rv_account.proofs.OfRules.Needs.{need_positive, waiting_need}
use Rattle.rv_account.proofs.OfRules.NumbersBehind.{no_more, one_less, one_more}
use Rattle.rv_account.proofs.OfRules.Sides.{ComesToWait, Waiting-back, WasWaiting}

pub waiting_below : (es : List Entry) (r : ℕ) → Waiting es r → r < length es
waiting_below es r waits = reads_within call_read refl es r waits.is_open.call waits.is_open.arrived

module _ (a : Account) (e : Entry) (n m : ℕ) (legal : Legal (with_entry a e))
    (before : NumberOf (Waiting a.entries) n) (after : NumberOf (Waiting (a.entries ++ e ∷ [])) m) where
  abbrev Behind : ℕ → Type 0
  Behind r = Waiting (a.entries ++ e ∷ []) r

  comes_back : (r : ℕ) → Behind r
      → WasWaiting a.entries e r ⊎ ((r ≡ length a.entries) × ComesToWait e)
  comes_back r waits =
      Waiting-back a.entries e r (follows_itself a e legal).pairs.names_free_partners waits

  back : (r : ℕ) → Behind r → Waiting a.entries r ⊎ (r ≡ length a.entries)
  back r waits = elim (comes_back r waits) [ inl was ↦ inl was.there | inr new ↦ inr new.0 ]

  last_comes : Behind (length a.entries) → ComesToWait e
  last_comes waits = elim (comes_back (length a.entries) waits) [
    | inl was ↦ let inside = waiting_below a.entries (length a.entries) was.there in absurd (omega arith)
    | inr new ↦ new.1
  ]

  no_arrival : call_in e.act ≡ None → Behind (length a.entries) → ⊥
  no_arrival says waits = let new = last_comes waits in none-some new.call (sym says ∙ new.arrives)

  -- no more, after an entry that is no arrival
  pub calm_behind : call_in e.act ≡ None → m ≤ n
  calm_behind says =
      no_more (Waiting a.entries) Behind (length a.entries) n m before after (waiting_below a.entries) back
      (no_arrival says)

  -- fewer, where it stops one that waited
  pub stop_behind : call_in e.act ≡ None → (r : ℕ) → Waiting a.entries r
      → StoppedAt (a.entries ++ e ∷ []) r (length a.entries) → m + 1 ≤ n
  stop_behind says r waits stops =
      one_less (Waiting a.entries) Behind (length a.entries) n m before after (waiting_below a.entries) back
      (no_arrival says) r waits (λ still. still.is_open.unstopped (length a.entries, stops))

  -- with an arrival's own entry no more than it may need
  pub arrival_behind : (call : Call) → call_in e.act ≡ Some call → m + 1 ≤ n + need_of call
  arrival_behind call says = elim (waits_or_not (a.entries ++ e ∷ []) (length a.entries)) [
    | inr not_last ↦
        let most : m ≤ n = no_more (Waiting a.entries) Behind (length a.entries) n m before after
        (waiting_below a.entries) back not_last in
        let one : 1 ≤ need_of call = need_positive (wait_of call) in
        omega arith
    | inl waits ↦
        let new = last_comes waits in
        let same : new.call ≡ call = same_Some _ _ (sym new.arrives ∙ says) in
        let two : need_of call ≡ 2 = waiting_need call (subst Stays same new.stays)
        (subst (λ c. IsPut c → ⊥) same new.no_put) in
        let most : m ≤ n + 1 = one_more (Waiting a.entries) Behind (length a.entries) n m before after
        (waiting_below a.entries) back in
        omega arith
  ]
