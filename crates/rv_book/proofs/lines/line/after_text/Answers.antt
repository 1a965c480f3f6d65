-- What `strip_prefix` finds.
use Rattle.std.proofs.Common.{◌≡◌, ◌≢◌, ◌++◌, ℕ, List, Option, Some, None, Bor, IfSome, MatchOption}
use Rattle.std.proofs.lemmas.Bool.Decides.{Decides-eqb}
use Rattle.std.proofs.lemmas.Slice.Eq.{strip_prefix_is}
use Rattle.rv_book.proofs.lines.line.after_text.Goals as goal

found : (s p : List ℕ) (r : Option (Bor (List ℕ)))
    → MatchOption r ((rest : List ℕ) → s ≢ p ++ rest) (λ x. s ≡ p ++ x.now) → IfSome r (λ x. s ≡ p ++ x.now)
found s p None is = tt
found s p (Some x) is = is

not_found : (s p : List ℕ) (r : Option (Bor (List ℕ)))
    → MatchOption r ((rest : List ℕ) → s ≢ p ++ rest) (λ x. s ≡ p ++ x.now) → r ≡ None → (rest : List ℕ)
    → s ≡ p ++ rest → ⊥
not_found s p None is none rest = is rest
not_found s p (Some x) is none rest = absurd (cc)

pub returns-clause-some : goal.returns-clause-some
returns-clause-some c =
    found c.args.bytes.now c.args.text.now c.strip_prefix.result (strip_prefix_is Decides-eqb c.args.bytes.now
    c.args.text.now c.strip_prefix.result c.strip_prefix.ensures.cases)

pub returns-clause-none : goal.returns-clause-none
returns-clause-none c =
    not_found c.args.bytes.now c.args.text.now c.strip_prefix.result (strip_prefix_is Decides-eqb
    c.args.bytes.now c.args.text.now c.strip_prefix.result c.strip_prefix.ensures.cases)
