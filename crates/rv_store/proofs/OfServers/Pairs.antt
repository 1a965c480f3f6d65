-- Frames and answers beside one another, of which each pair has a fact.
use Rattle.std.proofs.Common.{inl, inr, ◌≡◌, ◌∙◌, ◌++◌, ◌∷◌, ℕ, List, [], Some, sym, ap, subst, arith}
use Rattle.std.proofs.Common.{length, slice_get}
use Rattle.std.proofs.lemmas.Option.{same_Some}
use Rattle.rv_account.proofs.OfRules.Places.{get-append_cases, get-append_end, within}
use Rattle.rv_server_connections.specs.connection.History.{Given}

-- the fact holds of each frame and the answer at its place
abbrev pub EachPair : (List ℕ → Given → Type 0) → List (List ℕ) → List Given → Type 0
EachPair Holds frames answers = (place : ℕ) (body : List ℕ) (given : Given)
    → slice_get frames place ≡ Some body → slice_get answers place ≡ Some given → Holds body given

module _ (Holds : List ℕ → Given → Type 0) where
  -- a frame more, of which there is no answer yet
  pub pair_frame : (frames : List (List ℕ)) (answers : List Given) (body : List ℕ)
      → length frames ≡ length answers → EachPair Holds frames answers
      → EachPair Holds (frames ++ body ∷ []) answers
  pair_frame frames answers body same each place other given there answered =
      elim (get-append_cases frames body other place there) [
        | inl old ↦ each place other given old.1 answered
        | inr new ↦ (let less = within answers place given answered in
            let at = new.0 in absurd (let no : ⊥ = omega arith in no))
      ]

  -- an answer more, to the first frame that had none
  pub pair_answer : (frames : List (List ℕ)) (answers : List Given) (body : List ℕ) (given : Given)
      → slice_get frames (length answers) ≡ Some body → Holds body given → EachPair Holds frames answers
      → EachPair Holds frames (answers ++ given ∷ [])
  pair_answer frames answers body given first is each place other told there answered =
      elim (get-append_cases answers given told place answered) [
        | inl old ↦ each place other told there old.1
        | inr new ↦
            (let one : body ≡ other =
            same_Some body other (sym first ∙ ap (slice_get frames) (sym new.0) ∙ there) in
            subst (λ b. Holds b told) one (subst (Holds body) new.1 is))
      ]

  -- a frame more with its answer
  pub pair_both : (frames : List (List ℕ)) (answers : List Given) (body : List ℕ) (given : Given)
      → length frames ≡ length answers → Holds body given → EachPair Holds frames answers
      → EachPair Holds (frames ++ body ∷ []) (answers ++ given ∷ [])
  pair_both frames answers body given same is each =
      pair_answer (frames ++ body ∷ []) answers body given
      (ap (slice_get (frames ++ body ∷ [])) (sym same) ∙ get-append_end frames body) is
      (pair_frame frames answers body same each)
