-- The line of a side in a state is its line in the account, and each place of it is that of an arrival there.
use Rattle.rv_account.proofs.OfState.Words.{◌≡◌, ◌∙◌, ℕ, length, Bool, true, Some, option_and_then, refl}
use Rattle.rv_account.proofs.OfState.Words.{sym, ap}
use Rattle.rv_account.proofs.OfState.Words.{subst, eq-eqb, eqb-true, false≢true, slice_get, Side, Gives}
use Rattle.rv_account.proofs.OfState.Words.{Takes, Account}
use Rattle.rv_account.proofs.OfState.Words.{call_in, NumberOf, Open, OpenAt, OpenPlace, State, line}
use Rattle.rv_account.proofs.OfState.Words.{place_list}
use Rattle.rv_account.proofs.OfState.Words.{same_side, IsArrival, IsStateOf}
use Rattle.std.proofs.lemmas.List.{length-map}
use Rattle.rv_text.specs.declared.call.Side.TheVariants.{Looks, Exchanges}
use Rattle.rv_account.specs.rules.Lines.{IsLine}
use Rattle.rv_account.specs.rules.Waiting.{SideAt}
use Rattle.rv_account.proofs.OfRules.Counting.{line_number}
use Rattle.rv_account.proofs.OfRules.Sides.{one_side}
use Rattle.rv_account.proofs.OfState.Filtered.{filter_get, get_filter, filter_order, get_map, map_get}

-- ---- the test of sides

pub same_side_is : (s t : Side) → same_side s t ≡ true → s ≡ t
same_side_is (Gives p) (Gives q) same = ap Gives (eqb-true p q same)
same_side_is (Takes p) (Takes q) same = ap Takes (eqb-true p q same)
same_side_is (Looks p) (Looks q) same = ap Looks (eqb-true p q same)
same_side_is (Exchanges p) (Exchanges q) same = ap Exchanges (eqb-true p q same)
same_side_is _ _ same = absurd (false≢true same)

pub same_side_itself : (s : Side) → same_side s s ≡ true
same_side_itself (Gives queue) = eq-eqb queue queue refl
same_side_itself (Takes queue) = eq-eqb queue queue refl
same_side_itself (Looks queue) = eq-eqb queue queue refl
same_side_itself (Exchanges exchanger) = eq-eqb exchanger exchanger refl

-- ---- what stands among the open places

abbrev place_of : OpenPlace → ℕ
place_of o = o.place

module _ (a : Account) (s : State) (state : IsStateOf a s) where
  -- it is open
  pub stands_open : (i : ℕ) (there : OpenPlace) → slice_get s.open_places i ≡ Some there
      → Open a.entries there.place
  stands_open i there at =
      state.in_order.are i there.place (get_map place_of s.open_places i there at)

  -- what is open stands there
  pub open_stands : (r : ℕ) → Open a.entries r
      → (i : ℕ) × (there : OpenPlace) × (slice_get s.open_places i ≡ Some there) × (there.place ≡ r)
  open_stands r opened =
      let at = state.in_order.each r opened in
      let found = map_get place_of s.open_places at.0 r at.1 in
      (at.0, found.0, found.1, found.2)

  -- on its side
  of_its_side : (there : OpenPlace) (side : Side) → (arrival : IsArrival a.entries there)
      → there.side ≡ side → SideAt a.entries side there.place
  of_its_side there side arrival is = record {
    call = arrival.call;
    arrived = ap (option_and_then call_in) arrival.arrived;
    is = sym arrival.side ∙ is;
  }

  -- ---- a line

  module _ (side : Side) where
    abbrev passes : OpenPlace → Bool
    passes o = same_side o.side side

    pub line_open : (i : ℕ) (there : OpenPlace) → slice_get (line s side) i ≡ Some there
        → OpenAt a.entries side there.place
    line_open i there at =
        let found = filter_get passes s.open_places i there at in
        record {
          of_side = of_its_side there side (state.arrivals found.0 there found.1)
              (same_side_is there.side side found.2);
          is_open = stands_open found.0 there found.1;
        }

    pub open_in_line : (r : ℕ) → OpenAt a.entries side r
        → (i : ℕ) × (there : OpenPlace) × (slice_get (line s side) i ≡ Some there) × (there.place ≡ r)
    open_in_line r opened =
        let at = open_stands r opened.is_open in
        let arrival = state.arrivals at.0 at.1 at.2 in
        let here : SideAt a.entries at.1.side r =
        subst (SideAt a.entries at.1.side) at.3 (of_its_side at.1 at.1.side arrival refl) in
        let is : at.1.side ≡ side = one_side a.entries at.1.side side r here opened.of_side in
        let same = ap (λ t. same_side t side) is ∙ same_side_itself side in
        let found = get_filter passes s.open_places at.0 at.1 at.2 same in
        (found.0, at.1, found.1, at.3)

    pub line_is : IsLine a.entries side (place_list (line s side))
    line_is = record {
      are = λ i r at.
          let found = map_get place_of (line s side) i r at in
          subst (OpenAt a.entries side) found.2 (line_open i found.0 found.1);
      each = λ r opened.
          let found = open_in_line r opened in
          (found.0, get_map place_of (line s side) found.0 found.1 found.2 ∙ ap Some found.3);
      rising = λ i j p q less first second.
          let one = map_get place_of (line s side) i p first in
          let two = map_get place_of (line s side) j q second in
          let order = filter_order passes s.open_places one.0 two.0 i j less one.1 two.1 in
          state.in_order.rising order.0 order.1 p q order.2
          (get_map place_of s.open_places order.0 one.0 order.3 ∙ ap Some one.2)
          (get_map place_of s.open_places order.1 two.0 order.4 ∙ ap Some two.2);
    }

    -- how many stand in it
    pub line_counts : NumberOf (OpenAt a.entries side) (length (line s side))
    line_counts = subst (NumberOf (OpenAt a.entries side)) (length-map (line s side) place_of)
        (line_number a.entries side (place_list (line s side)) line_is)
