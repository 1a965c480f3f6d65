-- Of each rule: where the state of a legal account keeps it the account does, and the other way round, as
-- long
-- as those before it are kept.
use Rattle.std.proofs.Common.{◌≡◌, ◌<◌, ◌≤◌, ◌∙◌, ℕ, zero, suc, Option, Some, None, refl, sym, subst, arith}
use Rattle.std.proofs.lemmas.Option.{same_Some}
use Rattle.rv_text.specs.declared.call.Call.{Call}
use Rattle.rv_text.specs.declared.call.Side.{Side}
use Rattle.rv_text.specs.Calls.{side_of}
use Rattle.rv_account.specs.declared.entry.Entry.{Entry}
use Rattle.rv_account.specs.Account.{Account, Among, call_in}
use Rattle.rv_account.specs.Calls.{opposite}
use Rattle.rv_account.specs.rules.Legal.{Legal}
use Rattle.rv_account.proofs.OfRules.Naming.{among_none}
use Rattle.rv_account.specs.state.After.{state_of}
use Rattle.rv_account.specs.state.Kept.{IsOpposite, NamesAll, NamesOpen, NamesOpposites, NamesWell}
use Rattle.rv_account.specs.state.Kept.{RulesAgree}
use Rattle.rv_account.specs.state.State.{OpenPlace, State, line_of, place_list, same_side}
use Rattle.rv_account.proofs.OfState.Filtered.{filter_get, map_get}
use Rattle.rv_account.proofs.OfState.PlacesLeft.{among_place}
use Rattle.rv_audit.specs.AccountRules.{ArrivesAs, BreaksBehind, IsPaired, IsSwapped, MeetsWrongly}
use Rattle.rv_audit.specs.AccountRules.{MissesPartner, rank_of}
use Rattle.rv_audit.specs.declared.rule.Rule.{Rule}
use Rattle.rv_audit.specs.declared.rule.Rule.TheVariants.{M1, M2, M3, N1, N2, N3, P1, P2, P3, P4, S1, S2}
use Rattle.rv_audit.proofs.RulesKept.{counts_in_turn, falls_not_back, is_of_session, meets_rightly}
use Rattle.rv_audit.proofs.RulesKept.{meets_somebody, names_rightly, paired_meets, passes_no_limit}
use Rattle.rv_audit.proofs.RulesKept.{passes_nobody_over, starts_newer, swapped_meets, ticks_for_something}
use Rattle.rv_audit.proofs.RulesSuffice.{cancels_in_turn, counts_up, keeps_limits, keeps_time}
use Rattle.rv_audit.proofs.RulesSuffice.{names_free_partners, of_session, pairs_oldest, pairs_opposites}
use Rattle.rv_audit.proofs.RulesSuffice.{pairs_where_possible, raises_incarnation}
use Rattle.rv_verify.specs.follow.state_rules.Ruling.{KeepsUpTo, KeepsRule}

-- ---- whom it might meet

line_open : (s : State) (o : Option Side) (p : ℕ) → Among (place_list (line_of s o)) p
    → Among (place_list s.open_places) p
line_open s None p at = absurd (among_none (place_list (line_of s None)) p refl at)
line_open s (Some side) p at =
    let found = map_get (λ (o : OpenPlace). o.place) (line_of s (Some side)) at.0 p at.1 in
    let stands = filter_get (λ (o : OpenPlace). same_side o.side side) s.open_places at.0 found.0 found.1 in
    subst (Among (place_list s.open_places)) found.2
    (among_place s.open_places stands.0 found.0 stands.1)

-- whom a call might meet is open
pub opposite_open : (s : State) (call : Call) (p : ℕ) → IsOpposite s call p
    → Among (place_list s.open_places) p
opposite_open s call p at = line_open s (opposite (side_of call)) p at

pub opposites_open : (s : State) (e : Entry) (call : Call) → call_in e.act ≡ Some call → NamesOpposites s e
    → NamesOpen s e
opposites_open s e call calls named p names = opposite_open s call p (named p call names calls)

-- ---- the two ways to meet

both_ways : (side : Side) → IsPaired side → IsSwapped side → ⊥
both_ways = grind arith

one_way : (e : Entry) (call other : Call) → ArrivesAs IsPaired e call → ArrivesAs IsSwapped e other → ⊥
one_way e call other paired swapped =
    let same : other ≡ call = same_Some _ _ (sym swapped.arrives ∙ paired.arrives) in
    both_ways (side_of call) paired.is (subst (λ (c : Call). IsSwapped (side_of c)) same swapped.is)

-- ---- each rule

module _ (a : Account) (e : Entry) (legal : Legal a) (agree : RulesAgree a (state_of a) e) where
  named_by_pairs : (call : Call) → ArrivesAs IsPaired e call → NamesWell (state_of a) e
      → (MeetsWrongly IsPaired a.entries e → ⊥) → NamesOpposites (state_of a) e
  named_by_pairs call arrives well none =
      (agree.opposites well).0 (pairs_opposites a.entries e none
      (λ wrongly. one_way e call wrongly.call arrives wrongly.arrives))

  named_by_swaps : (call : Call) → ArrivesAs IsSwapped e call → NamesWell (state_of a) e
      → (MeetsWrongly IsSwapped a.entries e → ⊥) → NamesOpposites (state_of a) e
  named_by_swaps call arrives well none =
      (agree.opposites well).0 (pairs_opposites a.entries e
      (λ wrongly. one_way e wrongly.call call wrongly.arrives arrives) none)

  all_by_pairs : (call : Call) → ArrivesAs IsPaired e call → (MissesPartner IsPaired a.entries e → ⊥)
      → NamesAll (state_of a) e
  all_by_pairs call arrives none =
      agree.all.0 (pairs_where_possible a.entries e none
      (λ misses. one_way e call misses.call arrives misses.arrives))

  all_by_swaps : (call : Call) → ArrivesAs IsSwapped e call → (MissesPartner IsSwapped a.entries e → ⊥)
      → NamesAll (state_of a) e
  all_by_swaps call arrives none =
      agree.all.0 (pairs_where_possible a.entries e
      (λ misses. one_way e misses.call call misses.arrives arrives) none)

  -- what breaks it not in the account keeps it in the state
  pub keeps_from : (rule : Rule) → KeepsUpTo (rank_of rule) (state_of a) e → (BreaksBehind rule a e → ⊥)
      → KeepsRule rule (state_of a) e
  keeps_from M1 before none = agree.time.0 (keeps_time a e legal none)
  keeps_from M2 before none = λ no_tick. agree.limits.0 (keeps_limits a e.moment e.act legal
      (λ other due. none (record { no_tick = other; due = due })) (λ ticks idle. no_tick ticks))
  keeps_from M3 before none = λ ticks. agree.limits.0 (keeps_limits a e.moment e.act legal
      (λ no_tick due. no_tick ticks) (λ also idle. none (record { ticks = also; nothing_due = idle })))
  keeps_from N1 before none = agree.incarnation.0 (raises_incarnation a.entries e.act none)
  keeps_from N2 before none = agree.session.0 (of_session a e.act legal none)
  keeps_from N3 before none =
      let of = before N2 (omega arith) in
      let session = agree.session.1 of in
      (agree.number of).0 (counts_up a e.act session none, cancels_in_turn a e.act legal session none)
  keeps_from P1 before none = agree.well (names_free_partners a.entries e none)
  keeps_from P2 before none = λ call arrives. named_by_pairs call arrives (before P1 (omega arith)) none
  keeps_from P3 before none = λ call arrives.
      let well = before P1 (omega arith) in
      let named = before P2 (omega arith) call arrives in
      let free = agree.free well (opposites_open (state_of a) e call arrives.arrives named) in
      (agree.oldest well named).0 (pairs_oldest a e legal free ((agree.opposites well).1 named) none)
  keeps_from P4 before none = λ call arrives. all_by_pairs call arrives none
  keeps_from S1 before none = λ call arrives. named_by_swaps call arrives (before P1 (omega arith)) none
  keeps_from S2 before none = λ call arrives. all_by_swaps call arrives none

  -- and what keeps it there doesn't break it in the account
  pub breaks_not : (rule : Rule) → KeepsUpTo (rank_of rule) (state_of a) e
      → (6 ≤ rank_of rule → NamesOpen (state_of a) e) → KeepsRule rule (state_of a) e → BreaksBehind rule a e
      → ⊥
  breaks_not M1 before opened keeps breaks = falls_not_back a e (agree.time.1 keeps) breaks
  breaks_not M2 before opened keeps breaks =
      passes_no_limit a.entries e (agree.limits.1 (keeps breaks.no_tick)) breaks
  breaks_not M3 before opened keeps breaks =
      ticks_for_something a.entries e (agree.limits.1 (keeps breaks.ticks)) breaks
  breaks_not N1 before opened keeps breaks = starts_newer a.entries e.act (agree.incarnation.1 keeps) breaks
  breaks_not N2 before opened keeps breaks = is_of_session a e.act (agree.session.1 keeps) breaks
  breaks_not N3 before opened keeps breaks =
      let turn = (agree.number (before N2 (omega arith))).1 keeps in
      counts_in_turn a.entries e.act turn.0 turn.1 breaks
  breaks_not P1 before opened keeps breaks =
      names_rightly a e legal (agree.free keeps (opened (omega arith))) breaks
  breaks_not P2 before opened keeps breaks =
      let pairs = (agree.opposites (before P1 (omega arith))).1 (keeps breaks.call breaks.arrives) in
      meets_rightly IsPaired a.entries e paired_meets pairs breaks
  breaks_not P3 before opened keeps breaks =
      let named = before P2 (omega arith) breaks.call breaks.arrives in
      passes_nobody_over a.entries e ((agree.oldest (before P1 (omega arith)) named).1
      (keeps breaks.call breaks.arrives)) breaks
  breaks_not P4 before opened keeps breaks =
      meets_somebody IsPaired a.entries e (agree.all.1 (keeps breaks.call breaks.arrives)) breaks
  breaks_not S1 before opened keeps breaks =
      let pairs = (agree.opposites (before P1 (omega arith))).1 (keeps breaks.call breaks.arrives) in
      meets_rightly IsSwapped a.entries e swapped_meets pairs breaks
  breaks_not S2 before opened keeps breaks =
      meets_somebody IsSwapped a.entries e (agree.all.1 (keeps breaks.call breaks.arrives)) breaks

  -- none of so many is broken in the account, so all of them are kept
  pub keeps_below : (n : ℕ) → ((other : Rule) → rank_of other < n → BreaksBehind other a e → ⊥)
      → KeepsUpTo n (state_of a) e
  keeps_below zero none other less = absurd (omega arith)
  keeps_below (suc n) none other less =
      keeps_from other
      (λ earlier below. keeps_below n (λ r within. none r (omega arith)) earlier (omega arith))
      (none other less)
