-- Which keys are known, and when what is known of each is what an account says.
use Rattle.std.specs.Prelude.{◌≡◌, Option, Some, is_some, unwrap_or}
use Rattle.std.specs.Map.{lookup}
use Rattle.rv_text.specs.declared.message.Key.{Key}
use Rattle.rv_account.specs.Account.{Account, with_entry}
use Rattle.rv_account.specs.declared.entry.Entry.{Entry}
use Rattle.rv_account.specs.rules.Legal.{Legal}
use Rattle.rv_account.specs.state.After.{following, state_of}
use Rattle.rv_machine.specs.Machines.{keys_settled, state_in}
use Rattle.rv_machine.specs.declared.machine.Machine.{Machine}
use Rattle.rv_replies.specs.declared.findings.fate.Fate.{Fate}
use Rattle.rv_replies.specs.declared.findings.fate.Fate.TheVariants.{Unnamed}
use Rattle.rv_replies.specs.declared.fates.Fates.{Fates}
use Rattle.rv_replies.specs.findings.Names.{is_named}
use Rattle.rv_replies.specs.findings.Fates.{IsFateOf}

-- what is known of the key's request
abbrev pub fate_in : Fates → Key → Option Fate
fate_in f key = lookup (is_named key) f.fates.entries

-- for each key that is known, this became of its request in the account
abbrev pub IsAbout : Fates → Account → Type 0
IsAbout f a = (key : Key) (fate : Fate) → fate_in f key ≡ Some fate → IsFateOf a.entries key fate

-- the same keys are known
abbrev pub KnowsSame : Fates → Fates → Type 0
KnowsSame old new = (key : Key) → is_some (fate_in new key) ≡ is_some (fate_in old key)

-- the key is known as one that nothing names, if it wasn't known before; what is known of the others stays
pub record AsksAbout (old new : Fates) (key : Key) : Type 0 where
  pub own : fate_in new key ≡ Some (unwrap_or (fate_in old key) Unnamed)
  pub others : (other : Key) → (other ≡ key → ⊥) → fate_in new other ≡ fate_in old other

-- the entry comes after a legal account, which is legal with it; the machine holds the state of that, and
-- lists the requests that the entry settled
pub record HasPassedBy (machine : Machine) (a : Account) (e : Entry) : Type 0 where
  pub before : Legal a
  pub legal : Legal (with_entry a e)
  pub state : state_in machine ≡ state_of (with_entry a e)
  pub settles : machine.settled.items ≡ keys_settled (following (state_of a) e.moment e.act).settles
