-- What is refused by a decoder is no body.
use Rattle.std.proofs.Common.{◌≡◌, ◌∙◌, ℕ, List, Result, Err, inl, inr, sym}
use Rattle.rv_json.specs.declared.fault.TextFault.{TextFault}
use Rattle.rv_json.specs.declared.fault.TextFault.TheVariants as text
use Rattle.rv_book.specs.declared.lines.fault.LineFault.TheVariants as line
use Rattle.rv_book.specs.lines.Faults.{line_fault}
use Rattle.rv_text.specs.Bodies.{Decodes}

no_memory : (why : TextFault) → line_fault why ≡ line.Bad → why ≡ text.NoMemory → ⊥
no_memory why bad is = let told : line_fault text.NoMemory ≡ line.Bad = cc in absurd (cc)

pub no_body : {A : Type 0} {IsBodyOf : List ℕ → A → Type 0} {bytes : List ℕ} (result : Result A TextFault)
    (why : TextFault) → Decodes A IsBodyOf bytes result → result ≡ Err why → line_fault why ≡ line.Bad
    → (x : A) → IsBodyOf bytes x → ⊥
no_body result why decodes is bad x has = elim (decodes.only x has) [
  | inl found ↦ absurd (cc)
  | inr none ↦ no_memory why bad (let same : Err why ≡ Err text.NoMemory = sym is ∙ none in cc)
]
