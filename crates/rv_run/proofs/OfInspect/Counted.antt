-- How many lines stand so to the first one of their key, line by line.
use Rattle.std.proofs.Common.{◌<◌, ◌≡◌, ◌+◌, ◌∙◌, ℕ, List, [], Option, None, Some, ap, arith, inl, inr}
use Rattle.std.proofs.Common.{length, refl, slice_get, subst, sym}
use Rattle.std.proofs.lemmas.Bool.{cases_lt}
use Rattle.std.proofs.lemmas.Option.{none-some, slice_get_cases}
use Rattle.rv_replies.specs.declared.findings.Told.{Told}
use Rattle.rv_replies.specs.Firsts.{IsBeside, StandsBeside}
use Rattle.rv_replies.specs.declared.reading.Flaw.{Flaw}
use Rattle.rv_replies.specs.declared.records.Beside.{Beside}
use Rattle.rv_replies.specs.declared.records.Line.{Line}
use Rattle.rv_replies.specs.declared.records.Line.TheVariants as line
use Rattle.rv_replies.specs.declared.records.Records.{Records}
use Rattle.rv_account.specs.rules.Counting.{NumberOf}
use Rattle.rv_account.proofs.OfRules.Counting.{number_push, same_number}
use Rattle.rv_run.specs.inspect.Report.{CountsBeside, StandsSo}
use Rattle.rv_run.proofs.OfInspect.SameLine.{same_told}

pub none_counted : (how : Beside) (r : Records) → CountsBeside how r 0 0
none_counted how r = record {
  are = λ a noted. record {
    places = [];
    rising = λ k less. absurd (omega arith);
    are = λ index. ((λ there. absurd (omega arith)), (λ below. absurd (omega (arith, below.inside))));
    is = refl;
  };
}

-- ---- one line more

module _ (how : Beside) (lines : List Line) (n m : ℕ) where
  at_other : (r k l : ℕ) → r < l → StandsSo how lines k r → StandsSo how lines l r
  at_other r k l less below = record {
    inside = less;
    told = below.told;
    first = below.first;
    there = below.there;
    beside = below.beside;
  }

  pub more_below : StandsSo how lines (n + 1) n → NumberOf (StandsSo how lines n) m
      → NumberOf (StandsSo how lines (n + 1)) (m + 1)
  more_below here count = number_push (StandsSo how lines n) (StandsSo how lines (n + 1)) m n count
      (λ r below. below.inside) (λ r. (
        (λ below. elim (cases_lt r n) [
          | inl less ↦ inl (at_other r (n + 1) n less below)
          | inr last ↦ inr (omega (arith, last, below.inside))
        ]),
        (λ either. elim either [
          | inl below ↦ at_other r n (n + 1) (omega (arith, below.inside)) below
          | inr is ↦ subst (StandsSo how lines (n + 1)) (sym is) here
        ]),
      ))

  pub same_below : (StandsSo how lines (n + 1) n → ⊥) → NumberOf (StandsSo how lines n) m
      → NumberOf (StandsSo how lines (n + 1)) m
  same_below none count = same_number (StandsSo how lines n) (StandsSo how lines (n + 1)) m (λ r. (
    (λ below. at_other r n (n + 1) (omega (arith, below.inside)) below),
    (λ below. elim (cases_lt r n) [
      | inl less ↦ at_other r (n + 1) n less below
      | inr last ↦
          let at : r ≡ n = omega (arith, last, below.inside) in
          absurd (none (subst (StandsSo how lines (n + 1)) at below))
    ]),
  )) count

-- ---- how a line stands

-- in one way
one_way : (told own : Told) (index first : ℕ) (x y : Option (Beside × ℕ)) → IsBeside told index own first x
    → IsBeside told index own first y → x ≡ y
one_way told own index first x y (inl d) (inl e) = d.1 ∙ sym e.1
one_way told own index first x y (inl d) (inr (inl e)) = absurd (d.0 (ap (λ (t : Told). t.reply) e.0))
one_way told own index first x y (inl d) (inr (inr e)) = absurd (d.0 e.0)
one_way told own index first x y (inr (inl d)) (inl e) = absurd (e.0 (ap (λ (t : Told). t.reply) d.0))
one_way told own index first x y (inr (inl d)) (inr (inl e)) = d.2 ∙ sym e.2
one_way told own index first x y (inr (inl d)) (inr (inr e)) = absurd (d.1 (e.1 d.0))
one_way told own index first x y (inr (inr d)) (inl e) = absurd (e.0 d.0)
one_way told own index first x y (inr (inr d)) (inr (inl e)) = absurd (e.1 (d.1 e.0))
one_way told own index first x y (inr (inr d)) (inr (inr e)) = d.2 ∙ sym e.2

one_beside : (lines : List Line) (index : ℕ) (told : Told) (x y : Option (Beside × ℕ))
    → StandsBeside lines index told x → StandsBeside lines index told y → x ≡ y
one_beside lines index told x y one other =
    let least = one.is_first.least other.first other.own other.is_first.there other.is_first.of_key in
    let most = other.is_first.least one.first one.own one.is_first.there one.is_first.of_key in
    let at : other.first ≡ one.first = omega (arith, least, most) in
    let same : other.own ≡ one.own = same_told other.own one.own (sym other.is_first.there
    ∙ ap (slice_get lines) at ∙ one.is_first.there) in
    one_way told one.own index one.first x y one.beside
    (subst (λ (i : ℕ). IsBeside told index one.own i y) at
    (subst (λ (t : Told). IsBeside told index t other.first y) same other.beside))

module _ (how : Beside) (lines : List Line) (n : ℕ) (o : Option (Beside × ℕ))
    (told : (own : Told) → slice_get lines n ≡ Some (line.Told own) → StandsBeside lines n own o) where
  by_line : ((flaw : Flaw) → slice_get lines n ≡ Some (line.Flawed flaw) → o ≡ None) → (first : ℕ)
      → o ≡ Some (how, first) → (own : Line) → slice_get lines n ≡ Some own → StandsSo how lines (n + 1) n
  by_line flawed first is (line.Told own) there = record {
    inside = omega arith;
    told = own;
    first = first;
    there = there;
    beside = subst (StandsBeside lines n own) is (told own there);
  }
  by_line flawed first is (line.Flawed flaw) there =
      absurd (none-some (how, first) (sym (flawed flaw there) ∙ is))

  -- so, where that was told
  pub stands_so : n < length lines
      → ((flaw : Flaw) → slice_get lines n ≡ Some (line.Flawed flaw) → o ≡ None)
      → (first : ℕ) → o ≡ Some (how, first) → StandsSo how lines (n + 1) n
  stands_so inside flawed first is = elim (slice_get_cases lines n).1 [
    | inl h ↦ by_line flawed first is h.0 h.2
    | inr h ↦ absurd (omega (arith, inside, h.0))
  ]

  -- and no other way
  pub told_so : (here : StandsSo how lines (n + 1) n) → o ≡ Some (how, here.first)
  told_so here = one_beside lines n here.told o (Some (how, here.first)) (told here.told here.there)
      here.beside
