-- Where an account is kept, by what the rows of options give.
use Rattle.std.proofs.Common.{◌≡◌, ◌∙◌, ap, Bool, Bor, false, None, Option, refl, Some, sym, true}
use Rattle.std.specs.Prelude.{is_some, option_map}
use Rattle.clap.specs.Words.{Text}

-- a value is there where its row is
pub there : (value : Option (Bor Text)) (row : Option Text) → option_map (λ v. v.now) value ≡ row
    → is_some value ≡ is_some row
there None row is = ap is_some is
there (Some text) row is = ap is_some is

pub no_value : (value : Option (Bor Text)) → is_some value ≡ false → value ≡ None
no_value None is = refl
no_value (Some text) is = absurd (cc)

pub one_account : (account store : Option (Bor Text)) (row : Option Text)
    → option_map (λ v. v.now) account ≡ row → (is_some row ≡ true → store ≡ None) → is_some account ≡ true
    → store ≡ None
one_account account store row is alone set = alone (sym (there account row is) ∙ set)

pub in_store : (begins : Bool) (store : Option (Bor Text)) (row : Option Text)
    → option_map (λ v. v.now) store ≡ row → (begins ≡ true → is_some row ≡ true) → begins ≡ true
    → is_some store ≡ true
in_store begins store row is has set = there store row is ∙ has set
