-- The first line of an account: it is cut in one way.
use Rattle.std.proofs.Common.{◌≡◌, ℕ, List, ◌∷◌, ◌++◌, drop, refl, sym, ap, subst, ◌∙◌, append_assoc, codes}
use Rattle.std.proofs.Common.{arith}
use Rattle.rv_book.specs.Steps.{max_moment}
use Rattle.rv_text.specs.Number.{WritesPlainly, WritesUpTo}
use Rattle.rv_book.specs.lines.Reading.{ReadsHead}
use Rattle.rv_book.proofs.OfLines.Cutting.{Lacks, cut_once, not_lacking}
use Rattle.rv_book.proofs.OfLines.Plain.{plain_lacks, plainly_one}

parts_cut : (line epoch opened : List ℕ) → line ≡ codes "epoch " ++ epoch ++ codes " opened " ++ opened
    → line ≡ codes "epoch " ++ (epoch ++ 32 ∷ (codes "opened " ++ opened))
parts_cut line epoch opened is = is ∙ append_assoc (codes "epoch " ++ epoch) (codes " opened ") opened
    ∙ append_assoc (codes "epoch ") epoch (codes " opened " ++ opened)

module _ {line : List ℕ} {epoch opened : ℕ} (has : ReadsHead line epoch opened) where
  pub cut_line : line ≡ codes "epoch " ++ (has.epoch_field ++ 32 ∷ (codes "opened " ++ has.opened_field))
  cut_line = parts_cut line has.epoch_field has.opened_field has.parts

  cut_word : (behind : List ℕ) → line ≡ codes "epoch " ++ behind
      → has.epoch_field ++ 32 ∷ (codes "opened " ++ has.opened_field) ≡ behind
  cut_word behind is = ap (drop 6) (sym cut_line ∙ is)

  pub has_space : (behind : List ℕ) → line ≡ codes "epoch " ++ behind → Lacks 32 behind → ⊥
  has_space behind is lacks = not_lacking 32 has.epoch_field (codes "opened " ++ has.opened_field)
      (subst (Lacks 32) (sym (cut_word behind is)) lacks)

  cut_epoch : (behind front rest : List ℕ) → line ≡ codes "epoch " ++ behind → Lacks 32 front
      → behind ≡ front ++ 32 ∷ rest → (has.epoch_field ≡ front) × (codes "opened " ++ has.opened_field ≡ rest)
  cut_epoch behind front rest is lacks is' =
      cut_once 32 has.epoch_field (codes "opened " ++ has.opened_field) front rest
      (plain_lacks 32 has.epoch_field epoch (omega arith) has.says_epoch) lacks (cut_word behind is ∙ is')

  pub has_word : (behind front rest : List ℕ) → line ≡ codes "epoch " ++ behind → Lacks 32 front
      → behind ≡ front ++ 32 ∷ rest → ((last : List ℕ) → rest ≡ codes "opened " ++ last → ⊥) → ⊥
  has_word behind front rest is lacks is' none = none has.opened_field
      (sym (cut_epoch behind front rest is lacks is').1)

  pub has_epoch : (behind front rest : List ℕ) → line ≡ codes "epoch " ++ behind → Lacks 32 front
      → behind ≡ front ++ 32 ∷ rest → WritesPlainly front epoch
  has_epoch behind front rest is lacks is' = subst (λ f. WritesPlainly f epoch) (cut_epoch behind front rest
      is lacks is').0 has.says_epoch

  pub has_opened : (behind front rest last : List ℕ) → line ≡ codes "epoch " ++ behind → Lacks 32 front
      → behind ≡ front ++ 32 ∷ rest → rest ≡ codes "opened " ++ last
      → WritesUpTo max_moment last opened
  has_opened behind front rest last is lacks is' is'' =
      subst (λ f. WritesUpTo max_moment f opened) (ap (drop 7) ((cut_epoch behind front rest is lacks is').1
      ∙ is'')) has.says_opened

-- a line says one epoch and one opening moment
pub head_one : {line : List ℕ} {e e' o o' : ℕ} → ReadsHead line e o → ReadsHead line e' o'
    → (e ≡ e') × (o ≡ o')
head_one {e = e} {e' = e'} {o = o} {o' = o'} a b =
    let lacks = plain_lacks 32 a.epoch_field e (omega arith) a.says_epoch in (
      plainly_one a.epoch_field e e' a.says_epoch (has_epoch b _ a.epoch_field _ (cut_line a) lacks refl),
      plainly_one a.opened_field o o' a.says_opened.0 (has_opened b _ a.epoch_field _ a.opened_field
          (cut_line a) lacks refl refl).0,
    )
