-- The laws of entries that follow a state: the state of a legal account says of an entry what an audit says
-- of the account with that entry.
use Rattle.std.specs.Prelude.{◌≡◌, ◌↔◌, length}
use Rattle.rv_account.specs.declared.entry.Entry.{Entry}
use Rattle.rv_account.specs.Account.{Account, with_entry}
use Rattle.rv_account.specs.rules.Legal.{Legal}
use Rattle.rv_account.specs.state.After.{state_of}
use Rattle.rv_account.specs.state.Follows.{FollowsState}
use Rattle.rv_audit.specs.Faults.{FirstFault, IsToldOf}
use Rattle.rv_audit.specs.declared.outcome.Audit.{Audit}
use Rattle.rv_audit.specs.declared.outcome.Audit.TheVariants.{Fault}
use Rattle.rv_audit.specs.declared.rule.Rule.{Rule}
use Rattle.rv_verify.specs.follow.state_rules.Ruling.{IsFirstBroken, IsOnNamed, NamesClosed}

-- an entry follows the state of a legal account exactly if the account with it is legal
abbrev pub FollowsLegally : Type 0
FollowsLegally = (a : Account) (e : Entry) → Legal a → FollowsState (state_of a) e ↔ Legal (with_entry a e)

-- the rule that it breaks first there is the one that an audit reports of the account with it; the converse
-- holds too, except for an entry that names a closed place
pub record BreaksAlike (a : Account) (e : Entry) (rule : Rule) : Type 0 where
  pub told : IsFirstBroken (state_of a) e rule → (told : Audit) → IsToldOf (with_entry a e) told
      → told ≡ Fault (length a.entries) rule
  pub broken : FirstFault (with_entry a e) (length a.entries) rule → ¬ NamesClosed (state_of a) e
      → IsFirstBroken (state_of a) e rule

abbrev pub RulesBreak : Type 0
RulesBreak = (a : Account) (e : Entry) (rule : Rule) → Legal a → BreaksAlike a e rule

-- an audit reports a fault at the last place of the account with the entry, of a rule on which places an
-- entry names
pub record ToldOnNamed (a : Account) (told : Audit) : Type 0 where
  pub rule : Rule
  pub is : told ≡ Fault (length a.entries) rule
  pub on_named : IsOnNamed rule

-- it does so if the entry names a closed place
abbrev pub ClosedBreaks : Type 0
ClosedBreaks = (a : Account) (e : Entry) (told : Audit) → Legal a → NamesClosed (state_of a) e
    → IsToldOf (with_entry a e) told → ToldOnNamed a told
