-- What stands in an account that is within its limits is within them too.
use Rattle.rv_account.specs.declared.entry.Act as act
use Rattle.rv_account.proofs.OfRules.Words.{◌≡◌, Act, Account, act_at, call_in, key_in, Call, Key, None}
use Rattle.rv_account.proofs.OfRules.Words.{Option, Some}
use Rattle.rv_account.proofs.OfRules.Words.{option_and_then, refl, subst, ℕ, none-some, same_Some, slice_get}
use Rattle.rv_account.specs.rules.Limits.{FitsAccount, FitsAct}
use Rattle.rv_text.specs.Limits.{FitsCall, FitsKey}
use Rattle.rv_account.proofs.OfRules.Growing.{act_read, read_there}

pub act_fits : (a : Account) (r : ℕ) (does : Act) → FitsAccount a → act_at a.entries r ≡ Some does
    → FitsAct does
act_fits a r does fits there =
    let entry = read_there act_read refl (slice_get a.entries r) does there in
    subst FitsAct (same_Some _ _ entry.2) (fits.entries r entry.0 entry.1).1

pub key_of_act : (does : Act) (key : Key) → FitsAct does → key_in does ≡ Some key → FitsKey key
key_of_act (act.TheVariants.Hello client incarnation version) key fits is = absurd (none-some key is)
key_of_act (act.TheVariants.Arrive other call) key fits is = subst FitsKey (same_Some _ _ is) fits.0
key_of_act (act.TheVariants.Cancel other) key fits is = subst FitsKey (same_Some _ _ is) fits
key_of_act act.TheVariants.Tick key fits is = absurd (none-some key is)

pub call_of_act : (does : Act) (call : Call) → FitsAct does → call_in does ≡ Some call → FitsCall call
call_of_act (act.TheVariants.Hello client incarnation version) call fits is = absurd (none-some call is)
call_of_act (act.TheVariants.Arrive key other) call fits is = subst FitsCall (same_Some _ _ is) fits.1
call_of_act (act.TheVariants.Cancel key) call fits is = absurd (none-some call is)
call_of_act act.TheVariants.Tick call fits is = absurd (none-some call is)

pub act_there : {B : Type 0} (f : Act → Option B) (o : Option Act) (y : B) → option_and_then f o ≡ Some y
    → (does : Act) × (o ≡ Some does) × (f does ≡ Some y)
act_there f None y h = absurd (none-some y h)
act_there f (Some does) y h = (does, refl, h)
