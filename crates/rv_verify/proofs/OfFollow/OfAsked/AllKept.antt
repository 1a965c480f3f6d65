-- An entry that keeps all rules after a state to resume from follows it.
use Rattle.std.proofs.Common.{◌≡◌, ◌≢◌, ◌<◌, ◌≤◌, ◌∷◌, ◌∙◌, ℕ, zero, suc, List, [], length, take}
use Rattle.std.proofs.Common.{Option, Some, None, IsSome, refl, sym, ap, subst, arith, inl, inr}
use Rattle.std.proofs.lemmas.List.{take-map}
use Rattle.std.proofs.lemmas.Option.{none-some, same_Some}
use Rattle.rv_text.specs.declared.call.Call.{Call}
use Rattle.rv_text.specs.declared.call.Side.{Side}
use Rattle.rv_text.specs.Calls.{side_of}
use Rattle.rv_account.specs.declared.entry.Act.{Act}
use Rattle.rv_account.specs.declared.entry.Act.TheVariants.{Arrive, Cancel, Hello, Tick}
use Rattle.rv_account.specs.declared.entry.Entry.{Entry}
use Rattle.rv_account.specs.Account.{Among, call_in}
use Rattle.rv_account.specs.Calls.{MayMeet, may_name, opposite}
use Rattle.std.proofs.Common.{is_some}
use Rattle.std.proofs.lemmas.Bool.{false≢true}
use Rattle.rv_account.specs.state.Kept.{HelloRises, NumberInTurn}
use Rattle.rv_audit.specs.AccountRules.{ArrivesAs, IsPaired, IsSwapped}
use Rattle.rv_audit.specs.declared.rule.Rule.{Rule}
use Rattle.rv_audit.specs.declared.rule.Rule.TheVariants.{M1, M2, M3, N1, N3, P1, P2, P3, P4, S1, S2}
use Rattle.rv_audit.proofs.RulesSuffice.{paired_or_swapped, swapped_opposite}
use Rattle.rv_account.specs.state.resume.Resuming.{CanResume}
use Rattle.rv_account.proofs.OfState.Resumed.Alone.{in_line}
use Rattle.rv_account.proofs.OfRules.Naming.{first_among}
use Rattle.rv_account.specs.state.Follows.{DueOnlyAtTick, FollowsState, NumberFits, partners_of}
use Rattle.rv_account.specs.state.Kept.{IsOpposite, NamesAll, NamesOldest, NamesOpposites, NamesWell}
use Rattle.rv_account.specs.state.State.{OpenPlace, State, line_of, opposites, place_list}
use Rattle.rv_account.proofs.OfState.Filtered.{map_get}
use Rattle.rv_verify.specs.follow.state_rules.Ruling.{KeepsRule}
use Rattle.rv_verify.specs.follow.state_rules.Walking.{LeadsLine, facing_places}
use Rattle.rv_verify.proofs.OfFollow.OfAsked.Lines.{facing_rises, front_kept}
use Rattle.rv_verify.proofs.OfFollow.OfAsked.Prefixes.{Rise, in_rest, rest_rises}

-- ---- the first of a line, as many as there may be

pub taken_front : (places line : List ℕ) (n : ℕ) → Rise line → LeadsLine places line → length places ≤ n
    → ((r : ℕ) → length places < n → Among line r → Among places r) → places ≡ take n line
taken_front [] line zero rise front few all = refl
taken_front [] [] (suc n) rise front few all = refl
taken_front [] (x ∷ line) (suc n) rise front few all =
    absurd (none-some x (all x (omega arith) (0, refl)).1)
taken_front (p ∷ places) line zero rise front few all = absurd (omega arith)
taken_front (p ∷ places) [] (suc n) rise front few all = absurd (none-some p (front 0 (omega arith)))
taken_front (p ∷ places) (x ∷ line) (suc n) rise front few all =
    let same : x ≡ p = same_Some _ _ (front 0 (omega arith)) in
    let rest : places ≡ take n line = taken_front places line n (rest_rises x line rise)
    (λ i inside. front (suc i) (omega arith)) (omega arith)
    (λ r fewer at.
    let above : x < r = rise 0 (suc at.0) x r (omega arith) refl at.1 in
    in_rest p places r (omega arith) (all r (omega arith) (suc at.0, at.1))) in
    ap (λ q. q ∷ places) (sym same) ∙ ap (λ (ps : List ℕ). x ∷ ps) rest

-- ---- moments and numbers

due_by : (s : State) (moment : ℕ) (does : Act) → (does ≢ Tick → DueOnlyAtTick s moment does)
    → (does ≡ Tick → DueOnlyAtTick s moment does) → DueOnlyAtTick s moment does
due_by s moment (Hello client incarnation version) other ticks = other (λ same. cc)
due_by s moment (Arrive key call) other ticks = other (λ same. cc)
due_by s moment (Cancel key) other ticks = other (λ same. cc)
due_by s moment Tick other ticks = ticks refl

number_by : (s : State) (moment : ℕ) (does : Act) (places : List ℕ) (e : Entry) → e.act ≡ does
    → ((rule : Rule) → KeepsRule rule s e) → NumberFits s does
number_by s moment (Hello client incarnation version) places e is keeps =
    subst (λ (x : Act). HelloRises s x) is (keeps N1)
number_by s moment (Arrive key call) places e is keeps = subst (λ (x : Act). NumberInTurn s x) is (keeps N3)
number_by s moment (Cancel key) places e is keeps = subst (λ (x : Act). NumberInTurn s x) is (keeps N3)
number_by s moment Tick places e is keeps = tt

-- ---- partners

none_named : (places : List ℕ) → ((p : ℕ) → Among places p → ⊥) → places ≡ []
none_named places none = elim (first_among places) [
  | inl first ↦ absurd (none first.0 first.1)
  | inr is ↦ is
]

module _ (s : State) (e : Entry) (is : CanResume s) (keeps : (rule : Rule) → KeepsRule rule s e) where
  well : NamesWell s e
  well = keeps P1

  silent : call_in e.act ≡ None → e.partners ≡ []
  silent none = none_named e.partners
      (λ p names. let met = well.meets p names in none-some met.0 (sym none ∙ met.1))

  -- at an exchanger no two are open
  alone_there : (side : Side) → IsSwapped side → (p r : ℕ) → Among (place_list (line_of s (Some side))) p
      → Among (place_list (line_of s (Some side))) r → r < p → ⊥
  alone_there side swaps p r at of less =
      let one = map_get (λ (o : OpenPlace). o.place) (line_of s (Some side)) at.0 p at.1 in
      let other = map_get (λ (o : OpenPlace). o.place) (line_of s (Some side)) of.0 r of.1 in
      let stands = in_line s side at.0 one.0 one.1 in
      let beside = in_line s side of.0 other.0 other.1 in
      let own : one.0.place ≡ p = one.2 in
      let its : other.0.place ≡ r = other.2 in
      is.apart one.0 other.0 stands.0 beside.0 (λ same. omega (arith, same, own, its, less))
      (ap opposite stands.1 ∙ swapped_opposite side swaps ∙ ap Some (sym beside.1))

  swaps_oldest : (call : Call) → call_in e.act ≡ Some call → IsSwapped (side_of call) → NamesOpposites s e
      → NamesOldest s e
  swaps_oldest call calls swaps named p r other also names at less =
      let same : call ≡ other = same_Some _ _ (sym calls ∙ also) in
      let line = swapped_opposite (side_of call) swaps in
      let here = subst (λ (o : Option Side). Among (place_list (line_of s o)) p) line
      (named p call names calls) in
      let there = subst (λ (o : Option Side). Among (place_list (line_of s o)) r) line
      (subst (λ (c : Call). IsOpposite s c r) (sym same) at) in
      absurd (alone_there (side_of call) swaps p r here there less)

  taken : (Is : Side → Type 0) (call : Call) → ArrivesAs Is e call → NamesOpposites s e → NamesOldest s e
      → NamesAll s e → e.partners ≡ place_list (take (may_name call) (opposites s call))
  taken Is call arrives named oldest all =
      taken_front e.partners (facing_places s call) (may_name call) (facing_rises s is call)
      (front_kept Is s e is call arrives well named oldest) (well.few call arrives.arrives)
      (λ r fewer at. all r call arrives.arrives fewer at)
      ∙ take-map (λ (o : OpenPlace). o.place) (may_name call) (opposites s call)

  partners_met : (call : Call) → call_in e.act ≡ Some call → IsSome (opposite (side_of call))
      → e.partners ≡ place_list (take (may_name call) (opposites s call))
  partners_met call calls meets = elim (paired_or_swapped (side_of call) meets) [
    | inl pairs ↦
        let arrives : ArrivesAs IsPaired e call = record { arrives = calls; is = pairs } in
        taken IsPaired call arrives (keeps P2 call arrives) (keeps P3 call arrives) (keeps P4 call arrives)
    | inr swaps ↦
        let arrives : ArrivesAs IsSwapped e call = record { arrives = calls; is = swaps } in
        let named = keeps S1 call arrives in
        taken IsSwapped call arrives named (swaps_oldest call calls swaps named) (keeps S2 call arrives)
  ]

  none_met : (n : ℕ) (o : Option Side) → o ≡ None → [] ≡ place_list (take n (line_of s o))
  none_met zero None is_none = refl
  none_met (suc n) None is_none = refl
  none_met n (Some side) is_none = absurd (none-some side (sym is_none))

  partners_by : (call : Call) → call_in e.act ≡ Some call → (o : Option Side) → opposite (side_of call) ≡ o
      → e.partners ≡ place_list (take (may_name call) (opposites s call))
  partners_by call calls (Some side) opposes = partners_met call calls (ap is_some opposes)
  partners_by call calls None alone =
      none_named e.partners
      (λ p names.
      let met = well.meets p names in
      let same : met.0 ≡ call = same_Some _ _ (sym met.1 ∙ calls) in
      let meets : MayMeet call = subst MayMeet same met.2 in
      false≢true (sym (ap is_some alone) ∙ meets))
      ∙ none_met (may_name call) (opposite (side_of call)) alone

  partners_are : (does : Act) → e.act ≡ does → e.partners ≡ partners_of s does
  partners_are (Hello client incarnation version) act = silent (ap call_in act)
  partners_are (Arrive key call) act = partners_by call (ap call_in act) (opposite (side_of call)) refl
  partners_are (Cancel key) act = silent (ap call_in act)
  partners_are Tick act = silent (ap call_in act)

  pub all_follow : FollowsState s e
  all_follow = record {
    moment = record { not_before = keeps M1; due = due_by s e.moment e.act (keeps M2) (keeps M3) };
    number = number_by s e.moment e.act e.partners e refl keeps;
    partners = partners_are e.act refl;
  }
