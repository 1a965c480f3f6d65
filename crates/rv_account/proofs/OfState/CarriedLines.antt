-- The lines of a step are carried from one meaning of their conditions to another that says the same.
use Rattle.rv_account.proofs.OfState.Words.{inl, inr, Refusal}
use Rattle.rv_account.specs.rules.Steps.{RefuseOr, WhereElse}

-- what is done in the end, of which this much is wanted
module _ (X : Type 0) (Wanted : X → Type 0) where
  -- something is done in that way
  pub record Done (How : X → Type 0) : Type 0 where
    pub what : X
    pub how : How what
    pub wanted : Wanted what

  -- a line that refuses
  pub carried_refusal : (D E R : Refusal → Type 0) (O : Type 0) (S : X → Refusal → Type 0) (P : X → Type 0)
      → ((p : Refusal) → D p → E p) → ((p : Refusal) → E p → D p)
      → ((p : Refusal) → R p → Done (λ x. S x p)) → (((p : Refusal) → D p → ⊥) → O → Done P) → RefuseOr D R O
      → Done (λ x. RefuseOr E (S x) (P x))
  carried_refusal D E R O S P to from refused goes_on (inl h) =
      let done = refused h.refusal h.refuses_it in
      record {
        what = done.what;
        how = inl (record { refusal = h.refusal; is_due = to h.refusal h.is_due; refuses_it = done.how });
        wanted = done.wanted;
      }
  carried_refusal D E R O S P to from refused goes_on (inr h) =
      let done = goes_on h.0 h.1 in
      record { what = done.what; how = inr ((λ p due. h.0 p (from p due)), done.how); wanted = done.wanted }

  -- a line with a condition
  pub carried_condition : (C D T O : Type 0) (S P : X → Type 0) → (C → D) → (D → C) → (C → T → Done S)
      → ((C → ⊥) → O → Done P) → WhereElse C T O → Done (λ x. WhereElse D (S x) (P x))
  carried_condition C D T O S P to from this that (inl h) =
      let done = this h.0 h.1 in
      record { what = done.what; how = inl (to h.0, done.how); wanted = done.wanted }
  carried_condition C D T O S P to from this that (inr h) =
      let done = that h.0 h.1 in
      record { what = done.what; how = inr ((λ holds. h.0 (from holds)), done.how); wanted = done.wanted }
