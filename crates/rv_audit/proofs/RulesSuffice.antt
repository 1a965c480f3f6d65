-- An entry that breaks no rule after those of a legal account may follow them: for each rule, what it gives.
use Rattle.rv_audit.proofs.Words.{nat_tests}
use Rattle.rv_audit.proofs.Words.{◌≡◌, ◌≢◌, ◌⊎◌, ◌+◌, ◌<◌, ◌∷◌, ◌∙◌, inl, inr, ℕ, List, [], length}
use Rattle.rv_audit.proofs.Words.{Option, Some, None, IsSome, refl, sym, ap, subst, arith, slice_get}
use Rattle.rv_audit.proofs.Words.{cases_lt, none-some, same_Some, Version, Key, Call, Side}
use Rattle.rv_audit.proofs.Words.{side_of, Entry, Act, Hello, Arrive, Cancel, Tick, Account}
use Rattle.rv_audit.proofs.Words.{Among, Names, call_in, key_in, may_name, opposite, Met, OpenAt}
use Rattle.rv_audit.proofs.Words.{IsNextNumber, IsOpenOpposite, Legal, MayFollow, NamesFreePartners}
use Rattle.rv_audit.proofs.Words.{SomethingDue, own_moment, read_front, call_read}
use Rattle.rv_audit.proofs.Words.{same_or_not, one_side, Rule, M1, M2, M3, N1, N2, N3, P1, P2, P3}
use Rattle.rv_audit.proofs.Words.{P4, S1, S2, BreaksBehind, IsOutOfOrder, IsPaired, MeetsWrongly}
use Rattle.rv_audit.proofs.Words.{MissesPartner, NamesTaken, PassesOver, StartsNoNewer}
use Rattle.std.specs.Prelude.{is_some}
use Rattle.std.specs.List.Sorted.{IsStrictlyIncreasing}
use Rattle.rv_text.specs.declared.call.Call.TheVariants.{Drain}
use Rattle.rv_account.specs.Account.{call_at}
use Rattle.rv_account.specs.Calls.{MayMeet}
use Rattle.rv_account.specs.rules.Sessions.{HasIncarnation}
use Rattle.rv_account.specs.rules.Legal.{CancelsInTurn, CountsUp, IsFreePartner, IsOfSession, KeepsLimits}
use Rattle.rv_account.specs.rules.Legal.{KeepsTime}
use Rattle.rv_account.specs.rules.Legal.{NothingDue, PairsOldest, PairsOpposites, PairsWherePossible}
use Rattle.rv_account.specs.rules.Legal.{RaisesIncarnation}
use Rattle.rv_account.proofs.OfRules.Deciding.{find_last, open_by}
use Rattle.rv_account.specs.state.After.{state_of}
use Rattle.rv_account.proofs.OfState.Agreed.{agreed}
use Rattle.rv_account.proofs.OfState.Due.{nothing_due}
use Rattle.rv_account.proofs.OfState.DueDecided.{session_decided, waits_decided}
use Rattle.rv_account.proofs.OfState.NumbersBoth.{waits_to_account, waits_to_state}
use Rattle.rv_account.proofs.OfState.RefusalsBoth.{has_from, has_to}
use Rattle.rv_account.proofs.OfState.MomentsBoth.{some_to_due}
use Rattle.rv_account.proofs.OfState.OwnMoment.{later_keeps_time}
use Rattle.rv_account.proofs.OfRules.Fronts.{open_in_front}
use Rattle.rv_account.proofs.OfRules.Growing.{read_there}
use Rattle.rv_account.proofs.OfRules.Naming.{among_or_not}
use Rattle.rv_audit.specs.AccountRules.{BreaksCount, FallsBack, IsOfNoSession, IsSwapped, NamesOne}
use Rattle.rv_audit.specs.AccountRules.{NamesWrongly, ArrivesAs, WasNamed}

-- ---- moments

pub keeps_time : (a : Account) (e : Entry) → Legal a → (FallsBack a e → ⊥) → KeepsTime a e.moment
keeps_time a e legal stays = later_keeps_time a e.moment legal (elim (cases_lt e.moment (own_moment a)) [
  | inl falls ↦ absurd (stays falls)
  | inr least ↦ least
])

hello_no_tick : (client incarnation : ℕ) (version : Version) → Hello client incarnation version ≡ Tick → ⊥
hello_no_tick client incarnation version is = cc

arrival_no_tick : (key : Key) (call : Call) → Arrive key call ≡ Tick → ⊥
arrival_no_tick key call is = cc

cancel_no_tick : (key : Key) → Cancel key ≡ Tick → ⊥
cancel_no_tick key is = cc

pub keeps_limits : (a : Account) (moment : ℕ) (does : Act) → Legal a
    → (does ≢ Tick → SomethingDue a.entries moment → ⊥) → (does ≡ Tick → NothingDue a.entries moment → ⊥)
    → KeepsLimits a.entries moment does
keeps_limits a moment (Hello client incarnation version) legal past idle =
    λ r due. past (hello_no_tick client incarnation version) (r, due)
keeps_limits a moment (Arrive key call) legal past idle = λ r due. past (arrival_no_tick key call) (r, due)
keeps_limits a moment (Cancel key) legal past idle = λ r due. past (cancel_no_tick key) (r, due)
keeps_limits a moment Tick legal past idle =
    let state = agreed a legal in
    some_to_due a (state_of a) moment state (λ none. idle refl (nothing_due a (state_of a) moment state none))

-- ---- numbers

pub raises_incarnation : (es : List Entry) (does : Act) → (StartsNoNewer es does → ⊥)
    → RaisesIncarnation es does
raises_incarnation es does newer client incarnation version hello r reached earlier_version earlier =
    grind (arith, nat_tests)

pub of_session : (a : Account) (does : Act) → Legal a → (IsOfNoSession a does → ⊥) → IsOfSession a does
of_session a does legal known key names = (
  elim (same_or_not key.epoch a.epoch) [
    | inl same ↦ same
    | inr other ↦ absurd (known (record { key = key; names = names; no_session = inl other }))
  ],
  elim (session_decided (state_of a) key.client key.incarnation) [
    | inl has ↦ has_from a (state_of a) legal (agreed a legal) key.client key.incarnation has
    | inr none ↦ absurd (known (record {
      key = key;
      names = names;
      no_session = inr (λ has. none (has_to a (state_of a) legal (agreed a legal) key.client key.incarnation
          has));
    }))
  ],
)

in_turn : (es : List Entry) (key : Key) → HasIncarnation es key.client key.incarnation
    → (IsOutOfOrder es key → ⊥) → IsNextNumber es key
in_turn es key has turn =
    let last = find_last es key.client key.incarnation has.0 has.1 in record {
      last = last.0;
      is_last = last.1;
      next = elim (same_or_not key.number (last.0 + 1)) [
        | inl next ↦ next
        | inr other ↦ absurd (turn (inl (record { last = last.0; counts_to = inl last.1; other = other })))
      ];
      idle = λ waits. turn (inr waits);
    }

pub counts_up : (a : Account) (does : Act) → IsOfSession a does → (BreaksCount a.entries does → ⊥)
    → CountsUp a.entries does
counts_up a does session keeps key call arrives =
    in_turn a.entries key (session key (ap key_in arrives)).1 (λ out. keeps (subst (BreaksCount a.entries)
    (sym arrives) out))

pub cancels_in_turn : (a : Account) (does : Act) → Legal a → IsOfSession a does
    → (BreaksCount a.entries does → ⊥) → CancelsInTurn a.entries does
cancels_in_turn a does legal session keeps key cancels = elim (waits_decided (state_of a) key) [
  | inl waits ↦ inl (waits_to_account a (state_of a) key legal (agreed a legal) waits)
  | inr none ↦ inr (in_turn a.entries key (session key (ap key_in cancels)).1
      (λ out. keeps (subst (BreaksCount a.entries) (sym cancels)
      (λ under. none (waits_to_state a (state_of a) key legal (agreed a legal) under), out))))
]

-- ---- partners

-- a side that meets another is one of pairs or one of swaps
pub paired_or_swapped : (side : Side) → IsSome (opposite side) → IsPaired side ⊎ IsSwapped side
paired_or_swapped = grind arith

-- and so is the other
pub paired_opposite : (side other : Side) → opposite side ≡ Some other → IsPaired side → IsPaired other
paired_opposite = grind arith

-- who exchanges meets its own side
pub swapped_opposite : (side : Side) → IsSwapped side → opposite side ≡ Some side
swapped_opposite = grind arith

side_meets : (side : Side) → IsSome (opposite side) ⊎ (IsSome (opposite side) → ⊥)
side_meets = grind arith

meets_or_not : (o : Option Call) → ((call : Call) × (o ≡ Some call) × MayMeet call)
    ⊎ ((call : Call) × (o ≡ Some call) × MayMeet call → ⊥)
meets_or_not None = inr (λ h. none-some h.0 h.1)
meets_or_not (Some call) = elim (side_meets (side_of call)) [
  | inl meets ↦ inl (call, refl, meets)
  | inr alone ↦ inr (λ h. alone (subst MayMeet (same_Some _ _ (sym h.1)) h.2))
]

-- who is in a pair or swap was named, or named a partner itself
pub met_is_named : (es : List Entry) (p : ℕ) → Met es p → WasNamed es p ⊎ NamesOne es p
met_is_named es p met = grind arith

names_free : (es : List Entry) (e : Entry) → (NamesTaken es e → ⊥) → (p : ℕ) → Names e p
    → IsFreePartner es e p
names_free es e rightly p names = elim (meets_or_not (call_in e.act)) [
  | inr nobody ↦ absurd (rightly (record { partner = p; names = names; wrong = inl nobody }))
  | inl meets ↦ record {
    call = meets.0;
    arrives = meets.1;
    meets = meets.2;
    earlier = elim (cases_lt p (length es)) [
      | inl less ↦ less
      | inr most ↦ absurd (rightly (record { partner = p; names = names; wrong = inr (inl most) }))
    ];
    unmet = λ met. rightly (record { partner = p; names = names; wrong = inr (inr (met_is_named es p met)) });
  }
]

-- each place of a list is below the next, or at some place it is not
rises : (xs : List ℕ) → ((IsStrictlyIncreasing xs → ⊥) → ⊥) → IsStrictlyIncreasing xs
rises xs no_fall k within = grind arith

pub names_free_partners : (es : List Entry) (e : Entry) → (NamesWrongly es e → ⊥) → NamesFreePartners es e
names_free_partners = grind (arith, cases_lt, names_free, rises)

opposite_by : (es : List Entry) (call : Call) (p : ℕ) (o : Option Side) → opposite (side_of call) ≡ o
    → IsOpenOpposite es call p ⊎ (IsOpenOpposite es call p → ⊥)
opposite_by es call p None opposes = inr (λ h. none-some h.side (sym opposes ∙ h.opposes))
opposite_by es call p (Some side) opposes = elim (open_by es side p (call_at es p) refl) [
  | inl there ↦ inl (record { side = side; opposes = opposes; there = there })
  | inr closed ↦ inr (λ h. closed (subst (λ s. OpenAt es s p) (same_Some _ _ (sym h.opposes ∙ opposes))
      h.there))
]

pub opposite_or_not : (es : List Entry) (call : Call) (p : ℕ)
    → IsOpenOpposite es call p ⊎ (IsOpenOpposite es call p → ⊥)
opposite_or_not es call p = opposite_by es call p (opposite (side_of call)) refl

-- who is named by one that meets rightly
pub opposites_of : (Is : Side → Type 0) (es : List Entry) (e : Entry) → (MeetsWrongly Is es e → ⊥)
    → (call : Call) → ArrivesAs Is e call → (p : ℕ) → Names e p → IsOpenOpposite es call p
opposites_of Is es e rightly call arrives p names = elim (opposite_or_not es call p) [
  | inl is ↦ is
  | inr none ↦ absurd (rightly (record {
    call = call;
    arrives = arrives;
    partner = p;
    names = names;
    no_opposite = none;
  }))
]

pub pairs_opposites : (es : List Entry) (e : Entry) → (MeetsWrongly IsPaired es e → ⊥)
    → (MeetsWrongly IsSwapped es e → ⊥) → PairsOpposites es e
pairs_opposites = grind (arith, opposites_of, paired_or_swapped)

-- who is left by one that misses nobody
all_of : (Is : Side → Type 0) (es : List Entry) (e : Entry) → (MissesPartner Is es e → ⊥)
    → (call : Call) → ArrivesAs Is e call → (r : ℕ) → length e.partners < may_name call
    → IsOpenOpposite es call r → Names e r
all_of Is es e misses call arrives r fewer there = elim (among_or_not e.partners r) [
  | inl named ↦ named
  | inr unnamed ↦ absurd (misses (record {
    call = call;
    arrives = arrives;
    fewer = fewer;
    other = r;
    opposite_there = there;
    unnamed = unnamed;
  }))
]

pub pairs_where_possible : (es : List Entry) (e : Entry) → (MissesPartner IsPaired es e → ⊥)
    → (MissesPartner IsSwapped es e → ⊥) → PairsWherePossible es e
pairs_where_possible es e pairs swaps r call arrives fewer there =
    elim (paired_or_swapped (side_of call) (ap is_some there.opposes)) [
      | inl paired ↦ all_of IsPaired es e pairs call (record { arrives = arrives; is = paired }) r fewer there
      | inr swapped ↦ all_of IsSwapped es e swaps call (record { arrives = arrives; is = swapped }) r fewer
          there
    ]

-- who exchanges names one partner at most
pub one_partner : (call : Call) → IsSwapped (side_of call) → may_name call ≡ 1
one_partner (Drain queue max) swapped = absurd swapped
one_partner _ swapped = refl

-- ---- the oldest

-- in a legal account one at most is open at an exchanger: where the later came it would have met the earlier
pub one_at_exchanger : (a : Account) (side : Side) (r s : ℕ) → OpenAt a.entries side r
    → OpenAt a.entries side s
    → r < s → Legal a → IsSwapped side → ⊥
one_at_exchanger a side r s first second less legal swapped =
    let own = second.is_open in
    let here = second.of_side in
    let at = read_there call_read refl (slice_get a.entries s) here.call here.arrived in
    let nobody : (q : ℕ) → Names at.0 q → ⊥ = λ q names. own.unmet (record {
      later = s;
      earlier = q;
      names = record {
        call = own.call;
        arrived = own.arrived;
        meets = own.stays.0;
        named = record { entry = at.0; there = at.1; names = names };
      };
      part = inl refl;
    }) in
    let one : may_name here.call ≡ 1 = one_partner here.call (subst IsSwapped (sym here.is) swapped) in
    let none : length at.0.partners ≡ 0 = no_places at.0.partners nobody in
    nobody r ((legal s at.0 at.1).pairs.pairs_where_possible r here.call at.2 (omega arith) (record {
      side = side;
      opposes = ap opposite here.is ∙ swapped_opposite side swapped;
      there = record {
        of_side = record {
          call = first.of_side.call;
          arrived = read_front call_read a.entries s r first.of_side.call less first.of_side.arrived;
          is = first.of_side.is;
        };
        is_open = open_in_front a.entries s r less first.is_open;
      };
    }))
  where
    no_places : (places : List ℕ) → ((q : ℕ) → Among places q → ⊥) → length places ≡ 0
    no_places [] none = refl
    no_places (q ∷ rest) none = absurd (none q (0, refl))

-- an open arrival that stands before a partner, on its side, is a partner too
pub pairs_oldest : (a : Account) (e : Entry) → Legal a → NamesFreePartners a.entries e
    → PairsOpposites a.entries e → (PassesOver a.entries e → ⊥) → PairsOldest a.entries e
pairs_oldest a e legal names_free pairs passes p r side names of_side less there =
    let free : IsFreePartner a.entries e p = names_free.free p names in
    let meets : IsOpenOpposite a.entries free.call p = pairs p free.call names free.arrives free.meets in
    let same : meets.side ≡ side = one_side a.entries meets.side side p meets.there.of_side of_side in
    let opposes : opposite (side_of free.call) ≡ Some side = meets.opposes ∙ ap Some same in
    elim (among_or_not e.partners r) [
      | inl named ↦ named
      | inr unnamed ↦ elim (paired_or_swapped (side_of free.call) free.meets) [
        | inl paired ↦ absurd (passes (record {
          call = free.call;
          arrives = record { arrives = free.arrives; is = paired };
          partner = p;
          names = names;
          side = side;
          of_queue = paired_opposite (side_of free.call) side opposes paired;
          is_partners = of_side;
          passed = r;
          earlier = less;
          there = there;
          unnamed = unnamed;
        }))
        | inr swapped ↦
            let own : side_of free.call ≡ side = same_Some _ _
            (sym (swapped_opposite (side_of free.call) swapped) ∙ opposes) in
            absurd (one_at_exchanger a side r p there (subst (λ s. OpenAt a.entries s p) same meets.there)
            less legal (subst IsSwapped own swapped))
      ]
    ]

-- ---- all rules

pub may_follow : (a : Account) (e : Entry) → Legal a → ((rule : Rule) → BreaksBehind rule a e → ⊥)
    → MayFollow a e
may_follow a e legal keeps =
    let session : IsOfSession a e.act = of_session a e.act legal (keeps N2) in
    let free : NamesFreePartners a.entries e = names_free_partners a.entries e (keeps P1) in
    let opposites : PairsOpposites a.entries e = pairs_opposites a.entries e (keeps P2) (keeps S1) in
    record {
      moments = record {
        keeps_time = keeps_time a e legal (keeps M1);
        keeps_limits = keeps_limits a e.moment e.act legal (λ no_tick due. keeps M2
            (record { no_tick = no_tick; due = due }))
            (λ ticks nothing. keeps M3 (record { ticks = ticks; nothing_due = nothing }));
      };
      numbers = record {
        raises_incarnation = raises_incarnation a.entries e.act (keeps N1);
        of_session = session;
        counts_up = counts_up a e.act session (keeps N3);
        cancels = cancels_in_turn a e.act legal session (keeps N3);
      };
      pairs = record {
        names_free_partners = free;
        pairs_opposites = opposites;
        pairs_oldest = pairs_oldest a e legal free opposites (keeps P3);
        pairs_where_possible = pairs_where_possible a.entries e (keeps P4) (keeps S2);
      };
    }
