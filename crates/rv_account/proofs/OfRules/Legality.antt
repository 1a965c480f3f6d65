-- When an account stays legal with one entry more.
use Rattle.rv_account.proofs.OfRules.Words.{◌≡◌, ◌≤◌, ◌∷◌, ◌++◌, ◌∙◌, inl, inr, List, [], length, take, sym}
use Rattle.rv_account.proofs.OfRules.Words.{ap, subst}
use Rattle.rv_account.proofs.OfRules.Words.{arith, take-append-le, Entry, Account, Legal, MayFollow}
use Rattle.std.proofs.Math.Seq.{take-append_seam}
use Rattle.rv_account.specs.Account.{with_entry}
use Rattle.rv_account.proofs.OfRules.Places.{get-append_cases, get-append_end}

pub Legal-with_entry : (a : Account) (e : Entry) → Legal a → MayFollow a e → Legal (with_entry a e)
Legal-with_entry a e legal follows j x there =
    let P : List Entry
    → Type 0 = λ entries. MayFollow (record { epoch = a.epoch; opened = a.opened; entries = entries }) x
    in
    elim (get-append_cases a.entries e x j there) [
      | inl inside ↦ let short : j ≤ length a.entries = omega arith in
          subst P (sym (take-append-le j a.entries (e ∷ []) short)) (legal j x inside.1)
      | inr last ↦
          let whole : take j (a.entries ++ e ∷ []) ≡ a.entries = ap (λ n. take n (a.entries ++ e ∷ [])) last.0
          ∙ take-append_seam a.entries (e ∷ []) in
          subst P (sym whole) (subst (MayFollow a) last.1 follows)
    ]

-- the last entry of a legal account may follow those before it
pub follows_itself : (a : Account) (e : Entry) → Legal (with_entry a e) → MayFollow a e
follows_itself a e legal =
    let P : List Entry
    → Type 0 = λ es. MayFollow (record { epoch = a.epoch; opened = a.opened; entries = es }) e in
    subst P (take-append_seam a.entries (e ∷ [])) (legal (length a.entries) e (get-append_end a.entries e))
