-- Which rule an entry breaks that names a closed place.
use Rattle.std.proofs.Common.{◌≡◌, ◌∙◌, ℕ, List, Some, inl, inr}
use Rattle.std.proofs.Common.{take, refl, sym, subst, arith, slice_get}
use Rattle.rv_text.specs.declared.call.Call.{Call}
use Rattle.rv_text.specs.declared.call.Side.{Side}
use Rattle.rv_text.specs.declared.call.Side.TheVariants.{Exchanges, Gives, Looks, Takes}
use Rattle.rv_text.specs.Calls.{side_of}
use Rattle.rv_account.specs.declared.entry.Entry.{Entry}
use Rattle.rv_account.specs.Account.{Account, call_in}
use Rattle.rv_account.specs.rules.Legal.{Legal, before}
use Rattle.rv_account.specs.state.After.{state_of}
use Rattle.rv_account.specs.state.Kept.{NamesWell}
use Rattle.rv_account.proofs.OfState.Agreed.{agreed}
use Rattle.rv_audit.specs.AccountRules.{BreaksBehind, NamesTaken, NamesWrongly}
use Rattle.rv_audit.specs.Faults.{Breaks, FirstFault, IsToldOf}
use Rattle.rv_audit.specs.AccountRules.{IsPaired, IsSwapped}
use Rattle.rv_audit.specs.declared.rule.Rule.{Rule}
use Rattle.rv_audit.specs.declared.rule.Rule.TheVariants.{M1, M2, M3, N1, N2, N3, P1, P2, P3, P4, S1, S2}
use Rattle.rv_verify.specs.follow.state_rules.Ruling.{IsOnNamed, NamesClosed}
use Rattle.rv_verify.specs.Naming.{HaveMet, rule_by_side}
use Rattle.rv_verify.specs.Verdicts.{AuditTells}

-- an entry that was met breaks P1 after the others, and one that names well breaks it only so
met_breaks : (entries : List Entry) (e : Entry) → HaveMet entries e.partners → NamesWrongly entries e
met_breaks entries e met = elim met.meets.meets [
  | inl named ↦ inl (record {
    partner = met.meets.partner;
    names = named;
    wrong = inr (inr (inl (
      met.place,
      record {
        entry = met.other;
        there = met.there;
        names = met.meets.is_partner;
      },
    )));
  })
  | inr names ↦ inl (record {
    partner = met.place;
    names = names;
    wrong = inr (inr (inr (
      met.meets.partner,
      record {
        entry = met.other;
        there = met.there;
        names = met.meets.is_partner;
      },
    )));
  })
]

taken_met : (a : Account) (e : Entry) → Legal a → NamesWell (state_of a) e → NamesTaken a.entries e
    → HaveMet a.entries e.partners
taken_met a e legal well taken = elim taken.wrong [
  | inl idle ↦ absurd (idle (well.meets taken.partner taken.names))
  | inr closed ↦ elim closed [
    | inl beyond ↦ absurd (omega (
      arith,
      beyond,
      well.earlier taken.partner taken.names,
      (agreed a legal).length,
    ))
    | inr met ↦ elim met [
      | inl named ↦ record {
        place = named.0;
        other = named.1.entry;
        there = named.1.there;
        meets = record {
          partner = taken.partner;
          is_partner = named.1.names;
          meets = inl taken.names;
        };
      }
      | inr names ↦ record {
        place = taken.partner;
        other = names.1.entry;
        there = names.1.there;
        meets = record {
          partner = names.0;
          is_partner = names.1.names;
          meets = inr taken.names;
        };
      }
    ]
  ]
]

breaks_met : (a : Account) (e : Entry) → Legal a → NamesWell (state_of a) e → NamesWrongly a.entries e
    → HaveMet a.entries e.partners
breaks_met a e legal well (inl taken) = taken_met a e legal well taken
breaks_met a e legal well (inr (inl many)) =
    let few = well.few many.call many.arrives in absurd (omega (arith, many.many, few))
breaks_met a e legal well (inr (inr falling)) = absurd (falling well.rising)

-- ---- the rule

by_pair : (side : Side) → IsPaired side → P2 ≡ rule_by_side side
by_pair (Gives queue) is = refl
by_pair (Takes queue) is = refl
by_pair (Looks queue) is = absurd is
by_pair (Exchanges exchanger) is = absurd is

by_swap : (side : Side) → IsSwapped side → S1 ≡ rule_by_side side
by_swap (Gives queue) is = absurd is
by_swap (Takes queue) is = absurd is
by_swap (Looks queue) is = absurd is
by_swap (Exchanges exchanger) is = refl

same_some : {X : Type 0} (x y : X) → Some x ≡ Some y → x ≡ y
same_some x y same = cc

-- its call, if it is this one, has such a side
side_is : (Is : Side → Type 0) (e : Entry) (call other : Call) → call_in e.act ≡ Some call
    → call_in e.act ≡ Some other → Is (side_of other) → Is (side_of call)
side_is Is e call other is is' has = subst (λ c. Is (side_of c)) (same_some other call (sym is' ∙ is)) has

module _ (a : Account) (place : ℕ) (e : Entry) (there : slice_get a.entries place ≡ Some e)
    (legal : Legal (before a place)) (closed : NamesClosed (state_of (before a place)) e)
    (named : AuditTells a place IsOnNamed) where
  well : NamesWell (state_of (before a place)) e
  well = closed.kept P1 (omega arith)

  breaks_there : (rule : Rule) → BreaksBehind rule (before a place) e → Breaks rule a place
  breaks_there rule breaks = record { entry = e; there = there; breaks = breaks }

  at_entry : (rule : Rule) → Breaks rule a place → BreaksBehind rule (before a place) e
  at_entry rule broken = subst (BreaksBehind rule (before a place))
      (same_some broken.entry e (sym broken.there ∙ there)) broken.breaks

  -- if one was met, that breaks P1
  met_first : HaveMet (take place a.entries) e.partners → (rule : Rule) → IsOnNamed rule
      → FirstFault a place rule → rule ≡ P1
  met_first met M1 on fault = absurd on
  met_first met M2 on fault = absurd on
  met_first met M3 on fault = absurd on
  met_first met N1 on fault = absurd on
  met_first met N2 on fault = absurd on
  met_first met N3 on fault = absurd on
  met_first met P1 on fault = refl
  met_first met P2 on fault = absurd
      (fault.first P1 (omega arith) (breaks_there P1 (met_breaks (take place a.entries) e met)))
  met_first met P3 on fault = absurd on
  met_first met P4 on fault = absurd on
  met_first met S1 on fault = absurd
      (fault.first P1 (omega arith) (breaks_there P1 (met_breaks (take place a.entries) e met)))
  met_first met S2 on fault = absurd on

  -- else the rule is that of its side
  unmet_first : ¬ HaveMet (take place a.entries) e.partners → (call : Call) → call_in e.act ≡ Some call
      → (rule : Rule) → IsOnNamed rule → FirstFault a place rule → rule ≡ rule_by_side (side_of call)
  unmet_first unmet call is M1 on fault = absurd on
  unmet_first unmet call is M2 on fault = absurd on
  unmet_first unmet call is M3 on fault = absurd on
  unmet_first unmet call is N1 on fault = absurd on
  unmet_first unmet call is N2 on fault = absurd on
  unmet_first unmet call is N3 on fault = absurd on
  unmet_first unmet call is P1 on fault = absurd
      (unmet (breaks_met (before a place) e legal well (at_entry P1 fault.broken)))
  unmet_first unmet call is P2 on fault =
      let breaks = at_entry P2 fault.broken in
      by_pair (side_of call) (side_is IsPaired e call breaks.call is breaks.arrives.arrives
      breaks.arrives.is)
  unmet_first unmet call is P3 on fault = absurd on
  unmet_first unmet call is P4 on fault = absurd on
  unmet_first unmet call is S1 on fault =
      let breaks = at_entry S1 fault.broken in
      by_swap (side_of call) (side_is IsSwapped e call breaks.call is breaks.arrives.arrives
      breaks.arrives.is)
  unmet_first unmet call is S2 on fault = absurd on

  told_only : (rule : Rule) → ((other : Rule) → IsOnNamed other → FirstFault a place other → other ≡ rule)
      → AuditTells a place (λ other. other ≡ rule)
  told_only rule only told is =
      let fault = named told is in
      let first : FirstFault a place fault.0 = subst (IsToldOf a) fault.1 is in
      (fault.0, fault.1, only fault.0 fault.2 first)

  pub told_met : HaveMet (take place a.entries) e.partners → AuditTells a place (λ other. other ≡ P1)
  told_met met = told_only P1 (met_first met)

  pub told_unmet : ¬ HaveMet (take place a.entries) e.partners → (call : Call) → call_in e.act ≡ Some call
      → AuditTells a place (λ other. other ≡ rule_by_side (side_of call))
  told_unmet unmet call is = told_only (rule_by_side (side_of call)) (unmet_first unmet call is)
