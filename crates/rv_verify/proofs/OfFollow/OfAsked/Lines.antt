-- The line of those that a call might meet, beside the partners that an entry names.
use Rattle.std.proofs.Common.{◌≡◌, ◌<◌, ◌∙◌, ℕ, Bool, true, false, List, length, get_or, Option, Some}
use Rattle.std.proofs.Common.{None, refl, sym, ap, subst, arith, slice_get, inl, inr, nat_eq, IsTrue}
use Rattle.std.proofs.lemmas.Bool.{cases_lt, eq-eqb, eqb-true}
use Rattle.std.proofs.lemmas.Option.{none-some, same_Some, slice_get-get_or}
use Rattle.rv_text.specs.declared.call.Call.{Call}
use Rattle.rv_text.specs.declared.call.Side.{Side}
use Rattle.rv_text.specs.Calls.{side_of}
use Rattle.rv_text.specs.Limits.{FitsCall}
use Rattle.rv_account.specs.declared.entry.Act.{Act}
use Rattle.rv_account.specs.declared.entry.Act.TheVariants.{Arrive, Cancel, Hello, Tick}
use Rattle.rv_account.specs.declared.entry.Entry.{Entry}
use Rattle.rv_account.specs.Account.{Among, call_in}
use Rattle.rv_account.specs.Calls.{may_name, opposite}
use Rattle.rv_account.specs.Limits.{FitsAct}
use Rattle.rv_audit.specs.AccountRules.{ArrivesAs, IsSwapped}
use Rattle.rv_audit.proofs.RulesSuffice.{one_partner}
use Rattle.rv_account.specs.state.resume.Resuming.{CanResume}
use Rattle.rv_account.proofs.OfRules.Places.{within}
use Rattle.rv_account.specs.state.Kept.{IsOpposite, NamesAll, NamesOldest, NamesOpposites, NamesWell}
use Rattle.rv_account.specs.state.State.{OpenPlace, State, line_of, place_list, same_side}
use Rattle.rv_account.proofs.OfState.Filtered.{filter_order, map_get}
use Rattle.rv_verify.specs.follow.state_rules.Ruling.{IfArrives}
use Rattle.rv_verify.specs.follow.state_rules.Walking.{LeadsLine, NamesEachFacing, facing_places}
use Rattle.rv_verify.proofs.OfFollow.OfAsked.DueNow.{Iff}
use Rattle.rv_verify.proofs.OfFollow.OfAsked.Naming.{never}
use Rattle.rv_verify.proofs.OfFollow.OfAsked.Prefixes.{Rise, front_closed, front_from, rise_from}

-- ---- the line

line_rises : (s : State) → CanResume s → (o : Option Side) → Rise (place_list (line_of s o))
line_rises s is None i j p q less first second = absurd (none-some p first)
line_rises s is (Some side) i j p q less first second =
    let one = map_get (λ (o : OpenPlace). o.place) (line_of s (Some side)) i p first in
    let two = map_get (λ (o : OpenPlace). o.place) (line_of s (Some side)) j q second in
    let order = filter_order (λ (o : OpenPlace). same_side o.side side) s.open_places one.0 two.0 i j less
    one.1 two.1 in
    let up = is.rise order.0 order.1 one.0 two.0 order.2 order.3 order.4 in
    let own : one.0.place ≡ p = one.2 in
    let other : two.0.place ≡ q = two.2 in
    omega (arith, up, own, other)

pub facing_rises : (s : State) → CanResume s → (call : Call) → Rise (facing_places s call)
facing_rises s is call = line_rises s is (opposite (side_of call))

-- ---- the next partner

pub stands_told : (line partners : List ℕ) (index next : ℕ) → slice_get line index ≡ Some next
    → index < length partners
    → Iff (IsTrue (nat_eq next (get_or partners index 0))) (slice_get line index ≡ slice_get partners index)
stands_told line partners index next at inside =
    let there = slice_get-get_or partners index 0 inside in (
      λ t. at ∙ ap Some (eqb-true next (get_or partners index 0) t) ∙ sym there,
      λ same. eq-eqb next (get_or partners index 0) (same_Some _ _ (sym at ∙ same ∙ there)),
    )

pub none_stands : (line partners : List ℕ) (index : ℕ) → slice_get line index ≡ None → index < length partners
    → Iff (IsTrue false) (slice_get line index ≡ slice_get partners index)
none_stands line partners index none inside =
    never (slice_get line index ≡ slice_get partners index)
    (λ same. none-some (get_or partners index 0)
    (sym none ∙ same ∙ slice_get-get_or partners index 0 inside))

-- ---- all that there are

none_past : (line : List ℕ) (n i p : ℕ) → slice_get line n ≡ None → slice_get line i ≡ Some p → i < n
none_past line n i p none at = elim (cases_lt i n) [
  | inl less ↦ less
  | inr most ↦
      let inside : i < length line = within line i p at in
      absurd (none-some (get_or line n 0) (sym none ∙ slice_get-get_or line n 0 (omega arith)))
]

module _ (s : State) (is : CanResume s) (call : Call) (partners : List ℕ)
    (front : LeadsLine partners (facing_places s call)) where
  pub all_taken : None ≡ slice_get (facing_places s call) (length partners)
      → Iff (IsTrue true) (NamesEachFacing s call partners)
  all_taken none = (
    λ t r fewer at.
        let less = none_past (facing_places s call) (length partners) at.0 r (sym none) at.1 in
        (at.0, sym (front at.0 less) ∙ at.1),
    λ all. refl,
  )

  pub one_left : (next : ℕ) → Some next ≡ slice_get (facing_places s call) (length partners)
      → length partners < may_name call → Iff (IsTrue false) (NamesEachFacing s call partners)
  one_left next there fewer =
      never (NamesEachFacing s call partners)
      (λ all.
      let at = all next fewer (length partners, sym there) in
      let inside : at.0 < length partners = within partners at.0 next at.1 in
      let up = facing_rises s is call at.0 (length partners) next next inside (front at.0 inside ∙ at.1)
      (sym there) in
      omega (arith, up))

-- ---- of an entry

pub call_fits : (does : Act) (call : Call) → FitsAct does → call_in does ≡ Some call → FitsCall call
call_fits (Hello client incarnation version) call fits arrives = absurd (none-some call arrives)
call_fits (Arrive key own) call fits arrives = subst FitsCall (same_Some _ _ arrives) fits.1
call_fits (Cancel key) call fits arrives = absurd (none-some call arrives)
call_fits Tick call fits arrives = absurd (none-some call arrives)

module _ (Is : Side → Type 0) (s : State) (e : Entry) (is : CanResume s) (call : Call)
    (arrives : ArrivesAs Is e call) where
  its : (other : Call) → call_in e.act ≡ Some other → call ≡ other
  its other calls = same_Some _ _ (sym arrives.arrives ∙ calls)

  pub front_kept : NamesWell s e → NamesOpposites s e → NamesOldest s e
      → LeadsLine e.partners (facing_places s call)
  front_kept well named oldest =
      front_from e.partners (facing_places s call) (rise_from e.partners well.rising) (facing_rises s is call)
      (λ p names. named p call names arrives.arrives)
      (λ p r names at less. oldest p r call arrives.arrives names at less)

  module _ (partners : List ℕ) (are : partners ≡ e.partners) (b : Bool) where
    pub oldest_told : NamesWell s e → IfArrives Is e (NamesOpposites s e)
        → Iff (IsTrue b) (LeadsLine partners (facing_places s call))
        → Iff (IsTrue b) (IfArrives Is e (NamesOldest s e))
    oldest_told well named told = (
      λ t own also p r other calls names at less.
          front_closed e.partners (facing_places s call) (facing_rises s is call)
          (subst (λ (ps : List ℕ). LeadsLine ps (facing_places s call)) are (told.0 t)) p r names
          (subst (λ (c : Call). IsOpposite s c r) (sym (its other calls)) at) less,
      λ oldest. told.1 (subst (λ (ps : List ℕ). LeadsLine ps (facing_places s call)) (sym are)
          (front_kept well (named call arrives) (oldest call arrives))),
    )

    pub front_named : NamesWell s e → IfArrives Is e (NamesOpposites s e) → IfArrives Is e (NamesOldest s e)
        → LeadsLine partners (facing_places s call)
    front_named well named oldest =
        subst (λ (ps : List ℕ). LeadsLine ps (facing_places s call)) (sym are)
        (front_kept well (named call arrives) (oldest call arrives))

    pub all_told : Iff (IsTrue b) (NamesEachFacing s call partners)
        → Iff (IsTrue b) (IfArrives Is e (NamesAll s e))
    all_told told = (
      λ t own also r other calls fewer at.
          subst (λ (ps : List ℕ). Among ps r) are
          (told.0 t r
          (subst (λ (ps : List ℕ). length ps < may_name call) (sym are)
          (subst (λ (c : Call). length e.partners < may_name c) (sym (its other calls)) fewer))
          (subst (λ (c : Call). IsOpposite s c r) (sym (its other calls)) at)),
      λ all. told.1 (λ r fewer at.
          subst (λ (ps : List ℕ). Among ps r) (sym are)
          (all call arrives r call arrives.arrives
          (subst (λ (ps : List ℕ). length ps < may_name call) are fewer) at)),
    )

-- who exchanges and names fewer than it may names nobody
pub nobody_front : (call : Call) (partners line : List ℕ) → IsSwapped (side_of call)
    → length partners < may_name call → LeadsLine partners line
nobody_front call partners line swaps fewer i inside =
    let one = one_partner call swaps in absurd (omega (arith, one, fewer, inside))
