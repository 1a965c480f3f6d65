-- Arrivals, as entries are made one after another.
use Rattle.std.proofs.Common.{◌≡◌, ◌<◌, ◌+◌, ◌∙◌, ℕ, Bool, true, false, List, [], ◌∷◌, ◌++◌, ap}
use Rattle.std.proofs.Common.{arith}
use Rattle.std.proofs.Common.{append_assoc, cond, eqb, get_or, inl, inr, length, subst, sym, take}
use Rattle.std.proofs.lemmas.Bool.Decides.{eqb_tells}
use Rattle.std.proofs.lemmas.List.{get_or-set_other, get_or-set_same, take_more}
use Rattle.std.proofs.lemmas.List.Sums.{sum_by_push}
use Rattle.rv_account.specs.declared.entry.Entry.{Entry}
use Rattle.rv_engine.specs.Calls.{CallsAreCounted, CountsMore, arrivals_at, call_count, counted_at}
use Rattle.rv_engine.specs.Calls.{is_arrival_at}

-- a count that stands at its greatest stays there
once_more : (a b : ℕ) → call_count (call_count a + b) ≡ call_count (a + b)
once_more a b = omega arith

entry_more : (place : ℕ) (entries : List Entry) (e : Entry)
    → arrivals_at place (entries ++ e ∷ []) ≡ arrivals_at place entries + cond (is_arrival_at place e.act) 1 0
entry_more place entries e = sum_by_push (λ entry. cond (is_arrival_at place entry.act) 1 0) entries e

adds : (place : ℕ) (entries : List Entry) (e : Entry) (b : Bool) → is_arrival_at place e.act ≡ b
    → arrivals_at place (entries ++ e ∷ []) ≡ arrivals_at place entries + cond b 1 0
adds place entries e b is =
    entry_more place entries e ∙ ap (λ x. arrivals_at place entries + cond x 1 0) is

-- one of a call that is counted at this place
pub one_more : (counts : List ℕ) (e : Entry) (at : ℕ) → at < length counts
    → ((place : ℕ) → is_arrival_at place e.act ≡ eqb at place)
    → CountsMore counts (e ∷ []) (counted_at counts at)
one_more counts e at within is entries counted place below =
    elim (eqb_tells at place) [
      | inl is_here ↦
          let more : arrivals_at place (entries ++ e ∷ []) ≡ arrivals_at place entries + 1 =
          adds place entries e true (is place ∙ is_here.0) in
          ap (λ p. get_or (counted_at counts at) p 0) (sym is_here.1)
          ∙ get_or-set_same counts at (call_count (get_or counts at 0 + 1)) 0 within
          ∙ ap (λ p. call_count (get_or counts p 0 + 1)) is_here.1
          ∙ ap (λ n. call_count (n + 1)) (counted place below)
          ∙ once_more (arrivals_at place entries) 1
          ∙ ap call_count (sym more)
      | inr is_other ↦
          let more : arrivals_at place (entries ++ e ∷ []) ≡ arrivals_at place entries + 0 =
          adds place entries e false (is place ∙ is_other.0) in
          let same : arrivals_at place (entries ++ e ∷ []) ≡ arrivals_at place entries = omega (arith, more)
          in
          get_or-set_other counts at place (call_count (get_or counts at 0 + 1)) 0 (λ q. is_other.1 (sym q))
          ∙ counted place below ∙ ap call_count (sym same)
    ]

-- the next entry of some
pub next_more : (old mid new : List ℕ) (made : List Entry) (i : ℕ) (e : Entry) → i < length made
    → e ≡ get_or made i e → CountsMore old (take i made) mid → CountsMore mid (e ∷ []) new
    → CountsMore old (take (i + 1) made) new
next_more old mid new made i e within is first second entries counted =
    let next : take (i + 1) made ≡ take i made ++ e ∷ [] =
    take_more made i e within ∙ ap (λ (x : Entry). take i made ++ x ∷ []) (sym is) in
    subst (λ (all : List Entry). CallsAreCounted all new)
    (append_assoc entries (take i made) (e ∷ []) ∙ ap (λ (more : List Entry). entries ++ more) (sym next))
    (second (entries ++ take i made) (first entries counted))
