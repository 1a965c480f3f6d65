-- A line of a step, with its refusal or condition and what follows it, to one conclusion.
use Rattle.rv_account.proofs.OfRules.Words.{inl, inr}
use Rattle.rv_text.specs.declared.answer.Refusal.{Refusal}
use Rattle.rv_account.specs.rules.Steps.{RefuseOr, WhereElse}

pub RefuseOr-elim : (D R : Refusal → Type 0) (O G : Type 0)
    → ((refusal : Refusal) → D refusal → R refusal → G) → (O → G) → RefuseOr D R O → G
RefuseOr-elim D R O G f g (inl h) = f h.refusal h.is_due h.refuses_it
RefuseOr-elim D R O G f g (inr h) = g h.1

pub WhereElse-elim : (C T O G : Type 0) → (C → T → G) → (O → G) → WhereElse C T O → G
WhereElse-elim C T O G f g (inl h) = f h.0 h.1
WhereElse-elim C T O G f g (inr h) = g h.1
