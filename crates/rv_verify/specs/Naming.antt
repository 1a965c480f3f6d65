-- Which places the entries before one met: the rule that this one breaks, if it names a closed place, depends
-- on them.
use Rattle.std.specs.Prelude.{◌≡◌, ◌⊎◌, ◌+◌, Bool, true, false, ℕ, List, Option, Some, slice_get, take}
use Rattle.rv_text.specs.declared.call.Side.{Side}
use Rattle.rv_text.specs.declared.call.Side.TheVariants.{Exchanges, Gives, Looks, Takes}
use Rattle.rv_account.specs.Account.{Among}
use Rattle.rv_account.specs.declared.entry.Entry.{Entry}
use Rattle.rv_audit.specs.declared.rule.Rule.{Rule}
use Rattle.rv_audit.specs.declared.rule.Rule.TheVariants.{P2, S1}
use Rattle.rv_verify.specs.Verdicts.{ReadsLongEntry, TellsFaultAt}

-- an entry at the place, with these partners, names one of the named places, or is at one of them and names a
-- partner
pub record MeetsOne (named : List ℕ) (place : ℕ) (partners : List ℕ) : Type 0 where
  pub partner : ℕ
  pub is_partner : Among partners partner
  pub meets : Among named partner ⊎ Among named place

-- some entry does so
pub record HaveMet (entries : List Entry) (named : List ℕ) : Type 0 where
  pub place : ℕ
  pub other : Entry
  pub there : slice_get entries place ≡ Some other
  pub meets : MeetsOne named place other.partners

-- the result says whether some entry does so
pub record HasMet (entries : List Entry) (named : List ℕ) (told : Option Bool) : Type 0 where
  pub met : Bool
  pub is : told ≡ Some met
  pub yes : met ≡ true → HaveMet entries named
  pub no : met ≡ false → ¬ HaveMet entries named

-- each of the first lines is read as the entry at its place
abbrev pub AreReadAs : List (List ℕ) → List Entry → Type 0
AreReadAs lines entries = (k : ℕ) (x : Entry) → slice_get entries k ≡ Some x
    → (line : List ℕ) × (slice_get lines k ≡ Some line) × ReadsLongEntry line x

-- the rule that an entry breaks if it names a closed place that never met, by the entry's side
abbrev pub rule_by_side : Side → Rule
rule_by_side (Gives queue) = P2
rule_by_side (Takes queue) = P2
rule_by_side (Looks queue) = P2
rule_by_side (Exchanges exchanger) = S1

-- both begin with the same lines, up to that of the entry at the place
abbrev pub BeginAlike : List (List ℕ) → List (List ℕ) → ℕ → Type 0
BeginAlike lines others place = take (place + 2) lines ≡ take (place + 2) others

-- if the verdict on the lines is that this entry at the place names a closed place, their fault is of this
-- rule
pub record IsRuleAt (lines : List (List ℕ)) (place : ℕ) (rule : Option Rule) : Type 0 where
  pub named : Rule
  pub is : rule ≡ Some named
  pub told : TellsFaultAt lines place named
