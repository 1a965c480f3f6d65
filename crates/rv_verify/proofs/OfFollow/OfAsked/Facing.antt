-- Whom a call might meet, told by what is open at a place.
use Rattle.std.proofs.Common.{◌≡◌, ◌∙◌, ℕ, Bool, true, false, List, Option, Some, None, refl, sym, ap, subst}
use Rattle.std.proofs.Common.{IsTrue, is_some, nat_eq, option_map}
use Rattle.std.proofs.lemmas.Bool.{eq-eqb, eqb-true, false≢true}
use Rattle.std.proofs.lemmas.Option.{none-some, same_Some}
use Rattle.rv_text.specs.declared.call.Call.{Call}
use Rattle.rv_text.specs.declared.call.Side.{Side}
use Rattle.rv_text.specs.Calls.{side_of}
use Rattle.rv_account.specs.declared.entry.Entry.{Entry}
use Rattle.rv_account.specs.Account.{Among}
use Rattle.rv_account.specs.Calls.{opposite}
use Rattle.rv_account.proofs.OfRules.Naming.{among_none}
use Rattle.rv_audit.specs.AccountRules.{ArrivesAs}
use Rattle.rv_machine.proofs.OfOpenPlaces.Indexing.{same_place}
use Rattle.rv_account.specs.state.resume.Resuming.{CanResume}
use Rattle.rv_account.proofs.OfState.Resumed.Alone.{in_line}
use Rattle.rv_account.specs.state.Kept.{IsOpposite, NamesOpposites}
use Rattle.rv_account.specs.state.State.{OpenPlace, State, line_of, open_at, place_list, same_side}
use Rattle.rv_account.proofs.OfState.Filtered.{find_get, get_filter, get_find, map_get}
use Rattle.rv_account.proofs.OfState.PlacesLeft.{among_place}
use Rattle.rv_account.proofs.OfState.SideLines.{same_side_itself}
use Rattle.rv_verify.specs.follow.state_rules.Ruling.{IfArrives}
use Rattle.std.proofs.Common.{[], ◌∷◌, cond}
use Rattle.rv_machine.specs.open_places.OpenMap.{first_behind}
use Rattle.rv_account.specs.state.State.{line}
use Rattle.rv_verify.specs.follow.state_rules.Walking.{HoldsOfAll, facing_places, first_above, is_above}
use Rattle.rv_verify.proofs.OfFollow.OfAsked.DueNow.{Iff}
use Rattle.rv_verify.proofs.OfFollow.OfAsked.Naming.{never}

module _ (s : State) (place : ℕ) where
  abbrev stands_here : OpenPlace → Bool
  stands_here o = nat_eq o.place place

  -- ---- what is open

  pub open_told : (o : Option OpenPlace) (b : Bool) → o ≡ open_at s place → b ≡ is_some o
      → Iff (IsTrue b) (Among (place_list s.open_places) place)
  open_told (Some there) b found is = (
    λ t. let at = find_get stands_here s.open_places there (sym found) in
        subst (Among (place_list s.open_places)) (eqb-true there.place place at.2)
        (among_place s.open_places at.0 there at.1),
    λ among. is,
  )
  open_told None b none is = (
    λ t. absurd (false≢true (sym is ∙ t)),
    λ among.
        let at = map_get (λ (o : OpenPlace). o.place) s.open_places among.0 place among.1 in
        let found = get_find stands_here s.open_places among.0 at.0 at.1 (eq-eqb at.0.place place at.2) in
        absurd (none-some found.0 (none ∙ found.1)),
  )

  -- ---- whom it might meet

  module _ (is : CanResume s) (call : Call) where
    facing_by : (there : OpenPlace) → open_at s place ≡ Some there → opposite (side_of call) ≡ Some there.side
        → IsOpposite s call place
    facing_by there found opposes =
        let at = find_get stands_here s.open_places there found in
        let line = get_filter (λ (o : OpenPlace). same_side o.side there.side) s.open_places at.0 there at.1
        (same_side_itself there.side) in
        subst (λ (o : Option Side). Among (place_list (line_of s o)) place) (sym opposes)
        (subst (Among (place_list (line_of s (Some there.side)))) (eqb-true there.place place at.2)
        (among_place (line_of s (Some there.side)) line.0 there line.1))

    -- who faces it there is what is open there
    pub record FacesAt (o : Option Side) : Type 0 where
      pub there : OpenPlace
      pub found : open_at s place ≡ Some there
      pub side : o ≡ Some there.side

    faces_by : (o : Option Side) → Among (place_list (line_of s o)) place → FacesAt o
    faces_by None at = absurd (among_none (place_list (line_of s None)) place refl at)
    faces_by (Some side) at =
        let there = map_get (λ (o : OpenPlace). o.place) (line_of s (Some side)) at.0 place at.1 in
        let stands = in_line s side at.0 there.0 there.1 in
        let found = get_find stands_here s.open_places stands.0.0 there.0 stands.0.1
        (eq-eqb there.0.place place there.2) in
        let other = find_get stands_here s.open_places found.0 found.1 in
        let same : found.0 ≡ there.0 = same_place s.open_places other.0 stands.0.0 found.0 there.0 is.rise
        other.1 stands.0.1 (eqb-true found.0.place place other.2 ∙ sym there.2) in
        record {
          there = there.0;
          found = found.1 ∙ ap Some same;
          side = ap Some (sym stands.1);
        }

    pub faces : IsOpposite s call place → FacesAt (opposite (side_of call))
    faces at = faces_by (opposite (side_of call)) at

    pub facing_told : (there : OpenPlace) (b : Bool) → Some there ≡ open_at s place
        → Iff (IsTrue b) (opposite (side_of call) ≡ Some there.side)
        → Iff (IsTrue b) (IsOpposite s call place)
    facing_told there b found same = (
      λ t. facing_by there (sym found) (same.0 t),
      λ at.
          let own = faces at in
          let one : own.there ≡ there = same_Some _ _ (sym own.found ∙ sym found) in
          same.1 (own.side ∙ ap (λ (o : OpenPlace). Some o.side) one),
    )

    pub none_facing : None ≡ open_at s place → Iff (IsTrue false) (IsOpposite s call place)
    none_facing none =
        never (IsOpposite s call place)
        (λ at. let own = faces at in none-some own.there (none ∙ own.found))

-- ---- of an entry

pub some_mapped : {X Y : Type 0} (f : X → Y) (o : Option X) → is_some o ≡ is_some (option_map f o)
some_mapped f None = refl
some_mapped f (Some x) = refl

pub named_told : (Is : Side → Type 0) (s : State) (e : Entry) (call : Call) (partners : List ℕ) (b : Bool)
    → ArrivesAs Is e call → partners ≡ e.partners → Iff (IsTrue b) (HoldsOfAll (IsOpposite s call) partners)
    → Iff (IsTrue b) (IfArrives Is e (NamesOpposites s e))
named_told Is s e call partners b arrives are told = (
  λ t own is p other names calls.
      subst (λ (c : Call). IsOpposite s c p) (same_Some _ _ (sym arrives.arrives ∙ calls))
      (told.0 t p (subst (λ (ps : List ℕ). Among ps p) (sym are) names)),
  λ named. told.1 (λ p at. named call arrives p call (subst (λ (ps : List ℕ). Among ps p) are at)
      arrives.arrives),
)

-- ---- the line

-- the first place above another is that of the first that stands above it
pub first_placed : (after : Option ℕ) (line : List OpenPlace)
    → first_above after (place_list line) ≡ option_map (λ (o : OpenPlace). o.place) (first_behind after line)
first_placed after [] = refl
first_placed after (o ∷ line) = by_head (is_above after o.place) (first_placed after line)
  where
    by_head : (b : Bool)
        → first_above after (place_list line)
        ≡ option_map (λ (o : OpenPlace). o.place) (first_behind after line)
        → cond b (Some o.place) (first_above after (place_list line))
        ≡ option_map (λ (o : OpenPlace). o.place) (cond b (Some o) (first_behind after line))
    by_head true rest = refl
    by_head false rest = rest

module _ (s : State) (call : Call) (after : Option ℕ) where
  pub faces_none : None ≡ opposite (side_of call) → None ≡ first_above after (facing_places s call)
  faces_none none = ap (λ (o : Option Side). first_above after (place_list (line_of s o))) none

  pub faces_first : (side : Side) (found : Option OpenPlace) → Some side ≡ opposite (side_of call)
      → found ≡ first_behind after (line s side)
      → option_map (λ (o : OpenPlace). o.place) found ≡ first_above after (facing_places s call)
  faces_first side found opposes is =
      ap (option_map (λ (o : OpenPlace). o.place)) is ∙ sym (first_placed after (line s side))
      ∙ ap (λ (o : Option Side). first_above after (place_list (line_of s o))) opposes
