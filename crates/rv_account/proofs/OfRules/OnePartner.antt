-- In a legal account each arrival that may name one partner is in one pair at most, a key arrives once, and
-- nobody meets a request that does not stay.
use Rattle.rv_account.proofs.OfRules.Words.{◌+◌, ◌<◌, ◌∙◌, ◌≡◌, ◌≤◌, Account, Names, act_at, call_at}
use Rattle.rv_account.proofs.OfRules.Words.{call_in, key_at}
use Rattle.rv_account.proofs.OfRules.Words.{key_in, Act, Arrive, Hello, Call, Version, Entry, HasIncarnation}
use Rattle.rv_account.proofs.OfRules.Words.{IsOpenOpposite, Legal, before, Key, Option, Some, ap, arith}
use Rattle.rv_account.proofs.OfRules.Words.{inl, inr}
use Rattle.rv_account.proofs.OfRules.Words.{length, option_and_then, refl, subst, sym, take, ℕ, Met}
use Rattle.rv_account.proofs.OfRules.Words.{NamesPartner}
use Rattle.rv_account.proofs.OfRules.Words.{Stays, may_name, cases_order, none-some, same_Some, slice_get}
use Rattle.rv_account.specs.rules.Legal.{IsNextNumber}
use Rattle.rv_account.specs.rules.Replies.{Meet}
use Rattle.rv_account.proofs.OfRules.Growing.{act_read, call_read, read_there}
use Rattle.rv_account.proofs.OfRules.Keys.{key_read}
use Rattle.rv_account.proofs.OfRules.Naming.{one_among}
use Rattle.rv_account.proofs.OfRules.Fronts.{Legal-before, names_in_front, naming, read_front, read_whole}
use Rattle.rv_account.proofs.OfRules.Histories.{one_last_hello}
use Rattle.rv_account.proofs.OfRules.Sides.{partner_before}

-- ---- partners

-- each partner that an arrival names, as it stands before that arrival
pub partner_open : (a : Account) (p q : ℕ) → Legal a → (names : NamesPartner a.entries p q)
    → IsOpenOpposite (take p a.entries) names.call q
partner_open a p q legal names =
    let at = naming a p q legal names in
    let call : call_in at.entry.act ≡ Some names.call = ap call_read (sym at.there) ∙ names.arrived in
    at.follows.pairs.pairs_opposites q names.call at.named call names.meets

pub partner_unmet : (a : Account) (p q : ℕ) → Legal a → NamesPartner a.entries p q → Met (take p a.entries) q
    → ⊥
partner_unmet a p q legal names met = let at = naming a p q legal names in
    (at.follows.pairs.names_free_partners.free q at.named).unmet met

-- nobody names an arrival that does not stay
pub goes_unnamed : (a : Account) (p r : ℕ) (call : Call) → Legal a → call_at a.entries r ≡ Some call
    → (Stays call → ⊥) → NamesPartner a.entries p r → ⊥
goes_unnamed a p r call legal arrived goes names =
    let opened = (partner_open a p r legal names).there.is_open in
    let whole = read_whole call_read refl a.entries p r opened.call opened.arrived in
    goes (subst Stays (same_Some _ _ (sym whole.1 ∙ arrived)) opened.stays)

-- all that an arrival names stand in one entry, and are no more than it may name
pub record NamesBoth (a : Account) (r s t : ℕ) (call : Call) : Type 0 where
  pub entry : Entry
  pub first : Names entry s
  pub second : Names entry t
  pub few : length entry.partners ≤ may_name call

pub names_both : (a : Account) (r s t : ℕ) (call : Call) → Legal a → call_at a.entries r ≡ Some call
    → NamesPartner a.entries r s → NamesPartner a.entries r t → NamesBoth a r s t call
names_both a r s t call legal arrived first second =
    let at = naming a r s legal first in
    let same : second.named.entry ≡ at.entry = same_Some _ _ (sym second.named.there ∙ at.there) in
    record {
      entry = at.entry;
      first = at.named;
      second = subst (λ (e : Entry). Names e t) same second.named.names;
      few = at.follows.pairs.names_free_partners.few call (ap call_read (sym at.there) ∙ arrived);
    }

pub names_one : (a : Account) (r s t : ℕ) (call : Call) → Legal a → call_at a.entries r ≡ Some call
    → may_name call ≡ 1 → NamesPartner a.entries r s → NamesPartner a.entries r t → s ≡ t
names_one a r s t call legal arrived single first second =
    let both = names_both a r s t call legal arrived first second in
    let few : length both.entry.partners ≤ may_name call = both.few in
    one_among both.entry.partners s t (omega arith) both.first both.second

named_before : (a : Account) (p q r : ℕ) → Legal a → NamesPartner a.entries p r → NamesPartner a.entries q r
    → p < q → ⊥
named_before a p q r legal first second less =
    let front = names_in_front a.entries q p r less first in
    partner_unmet a q r legal second (record { later = p; earlier = r; names = front; part = inr refl })

pub named_once : (a : Account) (p q r : ℕ) → Legal a → NamesPartner a.entries p r → NamesPartner a.entries q r
    → p ≡ q
named_once a p q r legal first second =
    elim (cases_order p q) [
      | inl same ↦ same
      | inr differ ↦ elim differ [
        | inl less ↦ absurd (named_before a p q r legal first second less)
        | inr more
            ↦ absurd (named_before a q p r legal second first more)
      ]
    ]

pub names_and_named : (a : Account) (p r s : ℕ) → Legal a → NamesPartner a.entries r s
    → NamesPartner a.entries p r → ⊥
names_and_named a p r s legal names named =
    let less : r < p = partner_before a p r legal named in
    partner_unmet a p r legal named (record {
      later = r;
      earlier = s;
      names = names_in_front a.entries p r s
          less names;
      part = inl refl;
    })

-- an arrival that may name one is in one pair at most
pub meets_one : (a : Account) (r s t : ℕ) (call : Call) → Legal a → call_at a.entries r ≡ Some call
    → may_name call ≡ 1 → Meet a.entries s r → Meet a.entries t r → s ≡ t
meets_one a r s t call legal arrived single (inl first) (inl second) = named_once a s t r legal first second
meets_one a r s t call legal arrived single (inl first) (inr second) = absurd (names_and_named a s r t legal
    second first)
meets_one a r s t call legal arrived single (inr first) (inl second) = absurd (names_and_named a t r s legal
    first second)
meets_one a r s t call legal arrived single (inr first) (inr second) = names_one a r s t call legal arrived
    single first second

-- ---- keys

no_hello : (c i : ℕ) (v : Version) (key : Key) → (o : Option Act) → o ≡ Some (Hello c i v)
    → option_and_then key_in o ≡ Some key → ⊥
no_hello c i v key o hello names = none-some key (sym (ap (option_and_then key_in) hello) ∙ names)

-- the session of a key that stands, before it
of_session : (a : Account) (p : ℕ) (key : Key) → Legal a → key_at a.entries p ≡ Some key
    → HasIncarnation (take p a.entries) key.client key.incarnation
of_session a p key legal named =
    let at = read_there key_read refl (slice_get a.entries p) key named in
    ((legal p at.0 at.1).numbers.of_session key at.2).1

-- a key that stands is not its session's next
pub named_not_next : (a : Account) (p : ℕ) (key : Key) → Legal a → key_at a.entries p ≡ Some key
    → HasIncarnation a.entries key.client key.incarnation → IsNextNumber a.entries key → ⊥
named_not_next a p key legal named has next =
    let same : next.is_last.h ≡ has.0 = one_last_hello a.entries key.client next.is_last.incarnation
    key.incarnation next.is_last.h has.0 next.is_last.hello has.1 in
    elim (cases_order p has.0) [
      | inl is ↦ no_hello key.client key.incarnation has.1.version key (act_at a.entries p)
          (ap (act_at a.entries) is ∙ has.1.hello) named
      | inr differ ↦ elim differ [
        | inl less ↦
            let earlier = of_session a p key legal named in
            let there = read_whole act_read refl a.entries p earlier.0 _ earlier.1.hello in
            let below : earlier.0 < has.0 = omega arith in
            let entry = read_there act_read refl (slice_get a.entries has.0) (Hello key.client key.incarnation
            has.1.version) has.1.hello in
            let raises = (legal has.0 entry.0 entry.1).numbers.raises_incarnation key.client key.incarnation
            has.1.version (same_Some _ _ entry.2) earlier.0 key.incarnation earlier.1.version
            (read_front act_read a.entries has.0 earlier.0 _ below there.1) in
            omega arith
        | inr more ↦
            let most : key.number ≤ next.last = next.is_last.greatest p key (omega arith)
            (record { named = named; of_client = refl }) in
            let number : key.number ≡ next.last + 1 = next.next in
            omega arith
      ]
    ]

-- so no request comes whose key stands before it
pub arrives_first : (a : Account) (p q : ℕ) (key : Key) (call : Call) → Legal a
    → key_at a.entries p ≡ Some key → act_at a.entries q ≡ Some (Arrive key call) → p < q → ⊥
arrives_first a p q key call legal named arrived less =
    let at = read_there act_read refl (slice_get a.entries q) (Arrive key call) arrived in
    let next = (legal q at.0 at.1).numbers.counts_up key call (same_Some _ _ at.2) in
    let has = of_session a q key legal (ap (option_and_then key_in) arrived) in
    named_not_next (before a q) p key (Legal-before a q legal) (read_front key_read a.entries q p key less
    named) has next

arrives_later : (a : Account) (p q : ℕ) (key : Key) (c d : Call) → Legal a
    → act_at a.entries p ≡ Some (Arrive key c) → act_at a.entries q ≡ Some (Arrive key d) → p < q → ⊥
arrives_later a p q key c d legal first second less = arrives_first a p q key d legal
    (ap (option_and_then key_in) first) second less

pub arrives_once : (a : Account) (p q : ℕ) (key : Key) (c d : Call) → Legal a
    → act_at a.entries p ≡ Some (Arrive key c) → act_at a.entries q ≡ Some (Arrive key d) → p ≡ q
arrives_once a p q key c d legal first second =
    elim (cases_order p q) [
      | inl same ↦ same
      | inr differ ↦ elim differ [
        | inl less ↦ absurd (arrives_later a p q key c d legal first second less)
        | inr more ↦ absurd (arrives_later a q p key d c legal second first more)
      ]
    ]
