-- Limits only refuse: a step under some is one under greater limits, but for the refusals that limits cause.
use Rattle.rv_account.proofs.OfRules.Words.{◌≡◌, ◌+◌, ◌<◌, ◌≤◌, ◌∙◌, inl, inr, ℕ, Option, Some, None}
use Rattle.rv_account.proofs.OfRules.Words.{length, ap, arith}
use Rattle.rv_account.proofs.OfRules.Words.{Account, Call, Key}
use Rattle.rv_text.specs.declared.message.Message.{Message}
use Rattle.rv_text.specs.declared.message.Message.TheVariants.{Hello, Request, Cancel}
use Rattle.rv_text.specs.declared.answer.Answer.{Answer}
use Rattle.rv_text.specs.declared.answer.Answer.TheVariants.{Refused}
use Rattle.rv_text.specs.declared.answer.Refusal.{Refusal}
use Rattle.rv_text.specs.declared.answer.Refusal.TheVariants.{ClientsFull, EpochFull}
use Rattle.rv_account.specs.Calls.{need_of}
use Rattle.rv_account.specs.rules.StepLimits.{AreAtMost, BoundAtMost, StepLimits}
use Rattle.rv_account.specs.rules.Steps.{ClientsFullDueUnder, EpochFullDueUnder, KeyLines, NextAtUnder}
use Rattle.rv_account.specs.rules.Steps.{NextUnder}
use Rattle.rv_account.specs.rules.Steps.{PlaceLine, PlacesFullDue, RefuseOr, Refuses, WhereElse, step_moment}

-- ---- lines

-- a line that goes on may go on to something else
behind_line : (D R : Refusal → Type 0) (O P : Type 0) → (O → P) → RefuseOr D R O → RefuseOr D R P
behind_line D R O P on (inl h) = inl h
behind_line D R O P on (inr h) = inr (h.0, on h.1)

behind_condition : (C T O P : Type 0) → (O → P) → WhereElse C T O → WhereElse C T P
behind_condition C T O P on (inl h) = inl h
behind_condition C T O P on (inr h) = inr (h.0, on h.1)

behind_key_lines : (a : Account) (key : Key) (R : Refusal → Type 0) (L O P : Type 0) → (O → P)
    → KeyLines a key R L O → KeyLines a key R L P
behind_key_lines a key R L O P on =
    behind_line _ R _ _ (behind_line _ R _ _ (behind_line _ R _ _ (behind_line _ R _ _
    (behind_condition _ L _ _ (behind_line _ R _ _ (behind_line _ R O P on))))))

-- a line that refuses nothing here, and whose refusal is due no more often there
limit_line : (D E R : Refusal → Type 0) (O P : Type 0) → ((p : Refusal) → D p → R p → ⊥)
    → ((p : Refusal) → E p → D p) → (O → P) → RefuseOr D R O → RefuseOr E R P
limit_line D E R O P not_here less on (inl h) = absurd (not_here h.refusal h.is_due h.refuses_it)
limit_line D E R O P not_here less on (inr h) = inr ((λ p due. h.0 p (less p due)), on h.1)

-- ---- a step

module _ (limits greater : StepLimits) (most : AreAtMost limits greater) (a b : Account) (x : Answer)
    (some_client : x ≡ Refused ClientsFull → ⊥) (some_entry : x ≡ Refused EpochFull → ⊥) where
  clients_less : (client : ℕ) (p : Refusal) → ClientsFullDueUnder greater a client p
      → ClientsFullDueUnder limits a client p
  clients_less client p due =
      let full : greater.clients ≤ due.clients = due.full in
      let more : limits.clients ≤ greater.clients = most.clients in
      record {
        is_new = due.is_new;
        clients = due.clients;
        count = due.count;
        full = omega arith;
        is = due.is;
      }

  entries_less : (need : ℕ) (p : Refusal) → EpochFullDueUnder greater a need p
      → EpochFullDueUnder limits a need p
  entries_less need p due =
      let full : greater.entries < length a.entries + due.waiting + need = due.full in
      let more : limits.entries ≤ greater.entries = most.entries in
      record { waiting = due.waiting; count = due.count; full = omega arith; is = due.is }

  places_less : (bound more : ℕ) → bound ≤ more → (call : Call) (p : Refusal) → PlacesFullDue more a call p
      → PlacesFullDue bound a call p
  places_less bound more no_less call p due =
      let full : more ≤ due.places = due.full in
      record {
        would_stay = due.would_stay;
        places = due.places;
        count = due.count;
        full = omega arith;
        is = due.is;
      }

  clients_line : (client : ℕ) (O P : Type 0) → (O → P)
      → RefuseOr (ClientsFullDueUnder limits a client) (Refuses a b x) O
      → RefuseOr (ClientsFullDueUnder greater a client) (Refuses a b x) P
  clients_line client O P =
      limit_line _ _ (Refuses a b x) O P (λ p due refuses. some_client (refuses.1 ∙ ap Refused due.is))
      (clients_less client)

  entries_line : (need : ℕ) (O P : Type 0) → (O → P)
      → RefuseOr (EpochFullDueUnder limits a need) (Refuses a b x) O
      → RefuseOr (EpochFullDueUnder greater a need) (Refuses a b x) P
  entries_line need O P =
      limit_line _ _ (Refuses a b x) O P (λ p due refuses. some_entry (refuses.1 ∙ ap Refused due.is))
      (entries_less need)

  places_line : (bound more : Option ℕ) → BoundAtMost bound more → (call : Call) (O : Type 0)
      → PlaceLine bound a call (Refuses a b x) O → PlaceLine more a call (Refuses a b x) O
  places_line None None no_less call O line = line
  places_line None (Some more) no_less call O line = absurd no_less
  places_line (Some bound) None no_less call O (inl h) =
      absurd (some_entry (h.refuses_it.1 ∙ ap Refused h.is_due.is))
  places_line (Some bound) None no_less call O (inr h) = h.1
  places_line (Some bound) (Some more) no_less call O line =
      limit_line _ _ (Refuses a b x) O O (λ p due refuses. some_entry (refuses.1 ∙ ap Refused due.is))
      (places_less bound more no_less call) (λ o. o) line

  at_greater : (moment : ℕ) (m : Message) → NextAtUnder limits a moment m b x
      → NextAtUnder greater a moment m b x
  at_greater moment (Hello client incarnation version) =
      behind_line _ (Refuses a b x) _ _
      (behind_line _ (Refuses a b x) _ _
      (behind_condition _ _ _ _
      (clients_line client _ _ (entries_line 1 _ _ (λ enters. enters)))))
  at_greater moment (Request key call) =
      behind_key_lines a key (Refuses a b x) _ _ _
      (entries_line (need_of call) _ _ (places_line limits.open_places greater.open_places most.places call
      _))
  at_greater moment (Cancel key) =
      behind_key_lines a key (Refuses a b x) _ _ _ (entries_line 1 _ _ (λ enters. enters))

pub under_greater : (limits greater : StepLimits) (a b : Account) (now : ℕ) (m : Message) (x : Answer)
    → AreAtMost limits greater → NextUnder limits a now m b x → (x ≡ Refused ClientsFull → ⊥)
    → (x ≡ Refused EpochFull → ⊥) → NextUnder greater a now m b x
under_greater limits greater a b now m x most next some_client some_entry = record {
  ticked = next.ticked;
  ticks = next.ticks;
  steps = at_greater limits greater most next.ticked b x some_client some_entry (step_moment a now) m
      next.steps;
}
