-- The laws of entries that follow a state.
use Rattle.std.proofs.Common.{◌≡◌, ◌<◌, ◌≤◌, ◌∷◌, ◌++◌, ◌∙◌, ℕ, suc, inl, inr, List, [], length, take, Option}
use Rattle.std.proofs.Common.{sym, ap, subst, arith}
use Rattle.std.specs.List.{slice_get}
use Rattle.std.proofs.Math.Seq.{take-append_seam}
use Rattle.std.proofs.lemmas.Bool.{cases_lt}
use Rattle.std.proofs.lemmas.Bool.{cases_order}
use Rattle.std.proofs.lemmas.List.{take-append-le}
use Rattle.rv_account.specs.declared.entry.Entry.{Entry}
use Rattle.rv_account.specs.Account.{Account, with_entry}
use Rattle.rv_account.specs.rules.Legal.{Legal, before}
use Rattle.rv_account.proofs.OfRules.Fronts.{Legal-before}
use Rattle.rv_account.proofs.OfRules.Legality.{Legal-with_entry, follows_itself}
use Rattle.rv_account.proofs.OfRules.Naming.{among_or_not}
use Rattle.rv_account.proofs.OfRules.Places.{get-append_cases, get-append_end}
use Rattle.rv_account.specs.state.After.{state_of}
use Rattle.rv_account.specs.state.Kept.{NamesOpen, RulesAgree}
use Rattle.rv_account.specs.state.State.{place_list}
use Rattle.rv_account.proofs.OfState.Agreed.{agreed}
use Rattle.rv_account.proofs.OfState.FollowsBoth.{account_to_state, state_to_account}
use Rattle.rv_account.proofs.OfState.RulesKept.{rules_agree}
use Rattle.rv_audit.specs.AccountRules.{BreaksBehind, rank_of}
use Rattle.rv_audit.specs.Faults.{FirstFault, IsToldOf}
use Rattle.rv_audit.specs.declared.outcome.Audit.{Audit}
use Rattle.rv_audit.specs.declared.outcome.Audit.TheVariants as tells
use Rattle.rv_audit.specs.declared.rule.Rule.{Rule}
use Rattle.rv_audit.specs.declared.rule.Rule.TheVariants.{M1, M2, M3, N1, N2, N3, P1, P2, P3, P4, S1, S2}
use Rattle.rv_audit.proofs.Ranks.{one_rank}
use Rattle.rv_audit.proofs.RulesKept.{breaks_nothing}
use Rattle.rv_verify.specs.follow.state_rules.Laws.{ClosedBreaks, FollowsLegally, RulesBreak, ToldOnNamed}
use Rattle.rv_verify.specs.follow.state_rules.Ruling.{IsFirstBroken, IsOnNamed, KeepsUpTo, KeepsRule}
use Rattle.rv_verify.specs.follow.state_rules.Ruling.{NamesClosed}
use Rattle.rv_verify.proofs.OfFollow.OfAsked.Rules.{breaks_not, keeps_below, opposites_open}

pub follows_legally : FollowsLegally
follows_legally a e legal = (
  λ follows. Legal-with_entry a e legal (state_to_account a (state_of a) e legal (agreed a legal) follows),
  λ whole. account_to_state a (state_of a) e legal (agreed a legal) (follows_itself a e whole),
)

-- a fault of the account with one entry more is one of that entry
pub record IsOfLast (a : Account) (e : Entry) (place : ℕ) (rule : Rule) : Type 0 where
  pub at_end : place ≡ length a.entries
  pub breaks : BreaksBehind rule a e
  pub first : (other : Rule) → rank_of other < rank_of rule → BreaksBehind other a e → ⊥

module _ (a : Account) (e : Entry) (legal : Legal a) where
  abbrev of_entries : List Entry → Account
  of_entries es = record { epoch = a.epoch; opened = a.opened; entries = es }

  agree : RulesAgree a (state_of a) e
  agree = rules_agree a (state_of a) e legal (agreed a legal)

  -- what breaks a rule at the end of the account does so after the others
  at_last : (rule : Rule) (x : Entry) (place : ℕ) → place ≡ length a.entries → e ≡ x
      → BreaksBehind rule (before (with_entry a e) place) x → BreaksBehind rule a e
  at_last rule x place is same breaks =
      let whole : take place (a.entries ++ e ∷ []) ≡ a.entries =
      ap (λ n. take n (a.entries ++ e ∷ [])) is ∙ take-append_seam a.entries (e ∷ []) in
      subst (BreaksBehind rule a) (sym same) (subst (λ es. BreaksBehind rule (of_entries es) x) whole breaks)

  from_last : (rule : Rule) (place : ℕ) → place ≡ length a.entries → BreaksBehind rule a e
      → BreaksBehind rule (before (with_entry a e) place) e
  from_last rule place is breaks =
      let whole : take place (a.entries ++ e ∷ []) ≡ a.entries =
      ap (λ n. take n (a.entries ++ e ∷ [])) is ∙ take-append_seam a.entries (e ∷ []) in
      subst (λ es. BreaksBehind rule (of_entries es) e) (sym whole) breaks

  of_last : (place : ℕ) (rule : Rule) → FirstFault (with_entry a e) place rule → IsOfLast a e place rule
  of_last place rule fault =
      let broken = fault.broken in
      elim (get-append_cases a.entries e broken.entry place broken.there) [
        | inl inside ↦
            let front : take place (a.entries ++ e ∷ []) ≡ take place a.entries =
            take-append-le place a.entries (e ∷ []) (omega arith) in
            absurd (breaks_nothing (before a place) broken.entry (Legal-before a place legal)
            (legal place broken.entry inside.1) rule
            (subst (λ es. BreaksBehind rule (of_entries es) broken.entry) front broken.breaks))
        | inr last ↦ record {
          at_end = last.0;
          breaks = at_last rule broken.entry place last.0 last.1 broken.breaks;
          first = λ other less breaks. fault.first other less (record {
            entry = e;
            there = ap (λ n. slice_at n) last.0 ∙ get-append_end a.entries e;
            breaks = from_last other place last.0 breaks;
          });
        }
      ]
    where
      slice_at : ℕ → Option Entry
      slice_at n = slice_get (a.entries ++ e ∷ []) n

  -- ---- the rule that is broken first

  same_rule : (rule other : Rule) (place : ℕ) → IsFirstBroken (state_of a) e rule → IsOfLast a e place other
      → other ≡ rule
  same_rule rule other place breaks last = elim (cases_order (rank_of other) (rank_of rule)) [
    | inl same ↦ one_rank other rule same
    | inr differ ↦ elim differ [
      | inl less ↦ absurd (breaks_not a e legal agree other
          (λ r below. breaks.first r (omega arith)) (λ least. breaks.named_open (omega arith))
          (breaks.first other less) last.breaks)
      | inr more ↦ absurd (breaks.broken (keeps_below a e legal agree (suc (rank_of rule))
          (λ r below. last.first r (omega arith)) rule (omega arith)))
    ]
  ]

  told_is : (rule : Rule) → IsFirstBroken (state_of a) e rule → (told : Audit)
      → IsToldOf (with_entry a e) told
      → told ≡ tells.Fault (length a.entries) rule
  told_is rule breaks tells.Legal whole =
      absurd (breaks.broken (keeps_below a e legal agree (suc (rank_of rule))
      (λ other less. breaks_nothing a e legal (follows_itself a e whole) other) rule (omega arith)))
  told_is rule breaks (tells.Fault place other) fault =
      let last = of_last place other fault in
      ap (λ n. tells.Fault n other) last.at_end
      ∙ ap (tells.Fault (length a.entries)) (same_rule rule other place breaks last)

  -- ---- closed places

  opens_by : (n : ℕ) → 7 ≤ n → KeepsUpTo n (state_of a) e → (NamesClosed (state_of a) e → ⊥)
      → NamesOpen (state_of a) e
  opens_by n most kept none p names = elim (among_or_not (place_list (state_of a).open_places) p) [
    | inl there ↦ there
    | inr closed ↦ absurd (none (record {
      kept = λ other less. kept other (omega arith);
      place = p;
      names = names;
      closed = closed;
    }))
  ]

  kept_with : (rule : Rule) → KeepsUpTo (rank_of rule) (state_of a) e → KeepsRule rule (state_of a) e
      → KeepsUpTo (suc (rank_of rule)) (state_of a) e
  kept_with rule before keeps other less = elim (cases_lt (rank_of other) (rank_of rule)) [
    | inl below ↦ before other below
    | inr most ↦ subst (λ r. KeepsRule r (state_of a) e) (sym (one_rank other rule (omega arith))) keeps
  ]

  is_broken : (rule : Rule) → FirstFault (with_entry a e) (length a.entries) rule
      → (NamesClosed (state_of a) e → ⊥) → IsFirstBroken (state_of a) e rule
  is_broken rule fault none =
      let last = of_last (length a.entries) rule fault in
      let first = keeps_below a e legal agree (rank_of rule) last.first in
      record {
        broken = λ keeps. breaks_not a e legal agree rule first
            (λ least. opens_by (suc (rank_of rule)) (omega arith) (kept_with rule first keeps) none) keeps
            last.breaks;
        first = first;
        named_open = λ less. opens_by (rank_of rule) (omega arith) first none;
      }

  kept_named : (n : ℕ) (rule : Rule) → rank_of rule < n
      → ((other : Rule) → rank_of other < n → BreaksBehind other a e → ⊥) → KeepsRule rule (state_of a) e
  kept_named n rule less first = keeps_below a e legal agree n first rule less

  not_open : NamesClosed (state_of a) e → NamesOpen (state_of a) e → ⊥
  not_open closed opened = closed.closed (opened closed.place closed.names)

  kept_not : (rule : Rule) → NamesClosed (state_of a) e → rank_of rule < 6 → BreaksBehind rule a e → ⊥
  kept_not rule closed less breaks =
      breaks_not a e legal agree rule (λ other below. closed.kept other (omega arith))
      (λ least. absurd (omega arith)) (closed.kept rule (omega arith)) breaks

  on_named : (rule : Rule) → NamesClosed (state_of a) e → BreaksBehind rule a e
      → ((other : Rule) → rank_of other < rank_of rule → BreaksBehind other a e → ⊥) → IsOnNamed rule
  on_named M1 closed breaks first = kept_not M1 closed (omega arith) breaks
  on_named M2 closed breaks first = kept_not M2 closed (omega arith) breaks
  on_named M3 closed breaks first = kept_not M3 closed (omega arith) breaks
  on_named N1 closed breaks first = kept_not N1 closed (omega arith) breaks
  on_named N2 closed breaks first = kept_not N2 closed (omega arith) breaks
  on_named N3 closed breaks first = kept_not N3 closed (omega arith) breaks
  on_named P1 closed breaks first = tt
  on_named P2 closed breaks first = tt
  on_named P3 closed breaks first = not_open closed (opposites_open (state_of a) e breaks.call
      breaks.arrives.arrives (kept_named 8 P2 (omega arith) first breaks.call breaks.arrives))
  on_named P4 closed breaks first = not_open closed (opposites_open (state_of a) e breaks.call
      breaks.arrives.arrives (kept_named 9 P2 (omega arith) first breaks.call breaks.arrives))
  on_named S1 closed breaks first = tt
  on_named S2 closed breaks first = not_open closed (opposites_open (state_of a) e breaks.call
      breaks.arrives.arrives (kept_named 11 S1 (omega arith) first breaks.call breaks.arrives))

  told_on_named : (told : Audit) → NamesClosed (state_of a) e → IsToldOf (with_entry a e) told
      → ToldOnNamed a told
  told_on_named tells.Legal closed whole =
      let pairs = (follows_itself a e whole).pairs in
      absurd (not_open closed (agree.names_open pairs.names_free_partners pairs.pairs_opposites))
  told_on_named (tells.Fault place rule) closed fault =
      let last = of_last place rule fault in record {
        rule = rule;
        is = ap (λ n. tells.Fault n rule) last.at_end;
        on_named = on_named rule closed last.breaks last.first;
      }

pub rules_break : RulesBreak
rules_break a e rule legal =
    record { told = told_is a e legal rule; broken = is_broken a e legal rule }

pub closed_breaks : ClosedBreaks
closed_breaks a e told legal = told_on_named a e legal told
