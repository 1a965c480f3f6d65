-- Items leave each queue in their order of arrival.
use Rattle.rv_book.proofs.Words.{◌<◌, ◌∙◌, ◌≡◌, ◌≤◌, Account, Entry, Gives, Takes, IsOpenOpposite, Legal}
use Rattle.rv_book.proofs.Words.{List, [], Some, ap, arith, inl, inr, length, refl, subst, sym, take, ℕ}
use Rattle.rv_book.proofs.Words.{NamesPartner, OpenAt, SideAt, Side, Stays, may_name, opposite, call_read}
use Rattle.rv_book.proofs.Words.{read_there, cases_lt, cases_order, partner_open, read_front, read_whole}
use Rattle.rv_book.proofs.Words.{one_side, same_Some, slice_get}
use Rattle.rv_book.specs.Laws.{ItemsLeaveInOrder}
use Rattle.rv_book.specs.Order.{MayTakeSeveral, PairAt, TakesInTurn}
use Rattle.rv_account.proofs.OfRules.OnePartner.{named_once, names_and_named, names_both}
use Rattle.rv_account.proofs.OfRules.CallKinds.{staying_single}
use Rattle.rv_account.proofs.OfRules.Naming.{among_none, first_among, two_among}
use Rattle.rv_account.proofs.OfRules.Fronts.{named_in_front, naming, open_in_shorter}
use Rattle.rv_account.proofs.OfRules.Sides.{partner_before}

-- ---- sides in fronts

in_front : (es : List Entry) (n r : ℕ) (side : Side) → r < n → SideAt es side r → SideAt (take n es) side r
in_front es n r side less at = record {
  call = at.call;
  arrived = read_front call_read es n r at.call less
      at.arrived;
  is = at.is;
}

in_whole : (es : List Entry) (n r : ℕ) (side : Side) → SideAt (take n es) side r → SideAt es side r
in_whole es n r side at = record {
  call = at.call;
  arrived = (read_whole call_read refl es n r at.call
      at.arrived).1;
  is = at.is;
}

-- who is open on a side in a longer front and stands in a shorter one is so there
open_earlier : (es : List Entry) (m n r : ℕ) (side : Side) → m ≤ n → r < m → OpenAt (take n es) side r
    → OpenAt (take m es) side r
open_earlier es m n r side less inside opened = record {
  of_side = in_front es m r side inside (in_whole es n r side opened.of_side);
  is_open = open_in_shorter es m n r less inside opened.is_open;
}

-- whom an arrival names is open before it
named_open : (a : Account) (p q : ℕ) (side : Side) → Legal a → NamesPartner a.entries p q
    → SideAt a.entries side q → OpenAt (take p a.entries) side q
named_open a p q side legal names at = record {
  of_side = in_front a.entries p q side (partner_before a p q legal names) at;
  is_open = (partner_open a p q legal names).there.is_open;
}

-- ---- never are both sides of a queue open

-- the later of the two names no partner, as it is unmet
later_unnaming : (es : List Entry) (n s : ℕ) (side : Side) (e : Entry) → OpenAt (take n es) side s
    → slice_get es s ≡ Some e → e.partners ≡ []
later_unnaming es n s side e later there = elim (first_among e.partners) [
  | inr none ↦ none
  | inl named ↦
      let opened = later.is_open in
      let whole = read_whole call_read refl es n s opened.call opened.arrived in
      let names : NamesPartner (take n es) s named.0 = record {
        call = opened.call;
        arrived = opened.arrived;
        meets = opened.stays.0;
        named = named_in_front es n s named.0 whole.0 (record { entry = e; there = there; names = named.1 });
      } in
      absurd (opened.unmet (record { later = s; earlier = named.0; names = names; part = inl refl }))
]

-- and so found nobody
later_found : (a : Account) (n r s : ℕ) (side other : Side) → Legal a → opposite side ≡ Some other
    → OpenAt (take n a.entries) other r → (later : OpenAt (take n a.entries) side s) → r < s → ⊥
later_found a n r s side other legal opposes earlier later less =
    let opened = later.is_open in
    let own = later.of_side in
    let whole = read_whole call_read refl a.entries n s own.call own.arrived in
    let at = read_there call_read refl (slice_get a.entries s) own.call whole.1 in
    let inside : s < n = whole.0 in
    let none : at.0.partners ≡ [] = later_unnaming a.entries n s side at.0 later at.1 in
    let same : own.call ≡ opened.call = same_Some _ _ (sym own.arrived ∙ opened.arrived) in
    let single : may_name own.call ≡ 1 = staying_single own.call (subst Stays (sym same) opened.stays) in
    let nobody : length at.0.partners ≡ 0 = ap (λ (places : List ℕ). length places) none in
    let found : IsOpenOpposite (take s a.entries) own.call r = record {
      side = other;
      opposes = ap opposite own.is ∙ opposes;
      there = open_earlier a.entries s n r other (omega arith) less earlier;
    } in
    let named = (legal s at.0 at.1).pairs.pairs_where_possible r own.call at.2 (omega arith) found in
    among_none at.0.partners r none named

pub one_side_open : (a : Account) (n queue g t : ℕ) → Legal a → OpenAt (take n a.entries) (Gives queue) g
    → OpenAt (take n a.entries) (Takes queue) t → ⊥
one_side_open a n queue g t legal gives takes = elim (cases_order g t) [
  | inl same ↦
      let apart : Gives queue ≡ Takes queue = one_side (take n a.entries) (Gives queue) (Takes queue) t
      (subst (SideAt (take n a.entries) (Gives queue)) same gives.of_side) takes.of_side in
      cc
  | inr differ ↦ elim differ [
    | inl less ↦ later_found a n g t (Takes queue) (Gives queue) legal refl gives takes less
    | inr more ↦ later_found a n t g (Gives queue) (Takes queue) legal refl takes gives more
  ]
]

-- ---- none is passed over

-- who is open before an arrival, and stands before one that it names, is named by it too
passed : (a : Account) (p q r : ℕ) (side : Side) → Legal a → NamesPartner a.entries p q
    → SideAt a.entries side q → r < q → OpenAt (take p a.entries) side r → NamesPartner a.entries p r
passed a p q r side legal names at less opened =
    let named = naming a p q legal names in
    record {
      call = names.call;
      arrived = names.arrived;
      meets = names.meets;
      named = record {
        entry = named.entry;
        there = named.there;
        names = named.follows.pairs.pairs_oldest q r side named.named (in_front a.entries p q side
            (partner_before a p q legal names) at) less opened;
      };
    }

none_passed : (a : Account) (queue p g t r : ℕ) → Legal a → PairAt a.entries queue p g t → r < g
    → OpenAt (take p a.entries) (Gives queue) r → PairAt a.entries queue p r t
none_passed a queue p g t r legal pair less opened = elim pair.names [
  | inl give ↦
      let there = subst (λ n. OpenAt (take n a.entries) (Gives queue) r) give.0 opened in
      absurd (one_side_open a g queue r t legal there (named_open a g t (Takes queue) legal give.1
      pair.takes))
  | inr take_it ↦
      let there = subst (λ n. OpenAt (take n a.entries) (Gives queue) r) take_it.0 opened in
      record {
        gives = in_whole a.entries p r (Gives queue) opened.of_side;
        takes = pair.takes;
        names = inr (take_it.0, passed a t g r (Gives queue) legal take_it.1 pair.gives less there);
      }
]

-- ---- in turn

-- who came earlier on a side is named no later
named_in_turn : (a : Account) (side : Side) (p1 q1 p2 q2 : ℕ) → Legal a → NamesPartner a.entries p1 q1
    → NamesPartner a.entries p2 q2 → SideAt a.entries side q1 → SideAt a.entries side q2 → q1 < q2 → p1 ≤ p2
named_in_turn a side p1 q1 p2 q2 legal first second at1 at2 less =
    elim (cases_lt p2 p1) [
      | inr right ↦ right
      | inl wrong ↦
          let before : q2 < p2 = partner_before a p2 q2 legal second in
          let both = passed a p2 q2 q1 side legal second at2 less (open_earlier a.entries p2 p1 q1 side
          (omega arith) (omega arith) (named_open a p1 q1 side legal first at1)) in
          let one : p1 ≡ p2 = named_once a p1 p2 q1 legal first both in
          absurd (omega arith)
    ]

-- who names two may name several
takes_several : (a : Account) (t g1 g2 : ℕ) → Legal a → NamesPartner a.entries t g1
    → NamesPartner a.entries t g2 → (g1 ≡ g2 → ⊥) → MayTakeSeveral a.entries t
takes_several a t g1 g2 legal first second differ =
    let both = names_both a t g1 g2 first.call legal first.arrived first second in
    let few : length both.entry.partners ≤ may_name first.call = both.few in
    let two : 1 < length both.entry.partners = two_among both.entry.partners g1 g2 differ both.first
    both.second in
    record { call = first.call; arrived = first.arrived; several = omega arith }

-- where both were named by their takers, or both by their givers
givers_named : (a : Account) (queue p1 g1 t1 p2 g2 t2 : ℕ) → Legal a → PairAt a.entries queue p1 g1 t1
    → PairAt a.entries queue p2 g2 t2
    → NamesPartner a.entries t1 g1 → NamesPartner a.entries t2 g2 → g1 < g2
    → TakesInTurn a.entries t1 t2 × (t1 ≤ t2)
givers_named a queue p1 g1 t1 p2 g2 t2 legal one two first second less =
    let turn : t1 ≤ t2 = named_in_turn a (Gives queue) t1 g1 t2 g2 legal first second one.gives two.gives less
    in
    elim (cases_lt t1 t2) [
      | inl sooner ↦ (inl sooner, turn)
      | inr most ↦
          let same : t1 ≡ t2 = omega arith in (
            inr (
              same,
              takes_several a t1 g1 g2 legal first (subst (λ t. NamesPartner a.entries t g2)
                  (sym same) second) (λ is. omega arith),
            ),
            turn,
          )
    ]

takers_named : (a : Account) (queue p1 g1 t1 p2 g2 t2 : ℕ) → Legal a → PairAt a.entries queue p1 g1 t1
    → PairAt a.entries queue p2 g2 t2
    → NamesPartner a.entries g1 t1 → NamesPartner a.entries g2 t2 → g1 < g2 → t1 < t2
takers_named a queue p1 g1 t1 p2 g2 t2 legal one two first second less = elim (cases_order t1 t2) [
  | inl same ↦
      let also : g1 ≡ g2 = named_once a g1 g2 t1 legal first (subst (NamesPartner a.entries g2) (sym same)
      second) in
      absurd (omega arith)
  | inr differ ↦ elim differ [
    | inl right ↦ right
    | inr wrong ↦ let turn : g2 ≤ g1 = named_in_turn a (Takes queue) g2 t2 g1 t1 legal second first two.takes
        one.takes wrong in absurd (omega arith)
  ]
]

-- where the first waited for its taker, and the second met one that waited: had that taker come before the
-- first left, both would have been open at once
taker_then_giver : (a : Account) (queue p1 g1 t1 p2 g2 t2 : ℕ) → Legal a → PairAt a.entries queue p1 g1 t1
    → PairAt a.entries queue p2 g2 t2
    → NamesPartner a.entries t1 g1 → NamesPartner a.entries g2 t2 → g1 < g2 → t1 < t2
taker_then_giver a queue p1 g1 t1 p2 g2 t2 legal one two first second less = elim (cases_order t1 t2) [
  | inl same ↦ absurd (names_and_named a g2 t1 g1 legal first (subst (NamesPartner a.entries g2) (sym same)
      second))
  | inr differ ↦ elim differ [
    | inl right ↦ right
    | inr wrong ↦
        let before1 : g1 < t1 = partner_before a t1 g1 legal first in
        let before2 : t2 < g2 = partner_before a g2 t2 legal second in
        let gives = named_open a t1 g1 (Gives queue) legal first one.gives in
        let takes = named_open a g2 t2 (Takes queue) legal second two.takes in
        elim (cases_lt t1 g2) [
          | inl sooner ↦ absurd (one_side_open a t1 queue g1 t2 legal gives (open_earlier a.entries t1 g2 t2
              (Takes queue) (omega arith) wrong takes))
          | inr later ↦ absurd (one_side_open a g2 queue g1 t2 legal (open_earlier a.entries g2 t1 g1
              (Gives queue) (omega arith) less gives) takes)
        ]
  ]
]

in_turn : (a : Account) (queue p1 g1 t1 p2 g2 t2 : ℕ) → Legal a → PairAt a.entries queue p1 g1 t1
    → PairAt a.entries queue p2 g2 t2 → g1 < g2 → TakesInTurn a.entries t1 t2 × (p1 ≤ p2)
in_turn a queue p1 g1 t1 p2 g2 t2 legal one two less = elim one.names [
  | inr first ↦ elim two.names [
    | inr second ↦ let turn = givers_named a queue p1 g1 t1 p2 g2 t2 legal one two first.1 second.1 less in
        let sooner : t1 ≤ t2 = turn.1 in (turn.0, omega arith)
    | inl second ↦
        let turn : t1 < t2 = taker_then_giver a queue p1 g1 t1 p2 g2 t2 legal one two first.1 second.1 less in
        let before : t2 < g2 = partner_before a g2 t2 legal second.1 in
        (inl turn, omega arith)
  ]
  | inl first ↦ elim two.names [
    | inl second ↦ let turn : t1 < t2 = takers_named a queue p1 g1 t1 p2 g2 t2 legal one two first.1 second.1
        less in (inl turn, omega arith)
    | inr second ↦
        let before1 : t1 < g1 = partner_before a g1 t1 legal first.1 in
        let before2 : g2 < t2 = partner_before a t2 g2 legal second.1 in
        let sooner : t1 < t2 = omega arith in
        (inl sooner, omega arith)
  ]
]

pub items_leave_in_order : ItemsLeaveInOrder
items_leave_in_order a legal = record {
  in_turn = λ queue p1 g1 t1 p2 g2 t2 one two less. in_turn a queue p1 g1 t1 p2 g2 t2 legal one two less;
  none_passed = λ queue p g t r pair less opened. none_passed a queue p g t r legal pair less opened;
}
