-- Rows of queues, one more each time.
use Rattle.std.proofs.Common.{◌≡◌, ◌∙◌, ◌+◌, ◌<◌, ◌≤◌, ◌++◌, ◌∷◌, ℕ, [], ap, arith, inl, inr, length}
use Rattle.std.proofs.Common.{length-append, List}
use Rattle.std.proofs.Common.{refl, Some, subst, sym}
use Rattle.std.specs.Prelude.{slice_get}
use Rattle.std.proofs.lemmas.Bool.{cases_lt}
use Rattle.rv_account.proofs.OfRules.Places.{get-append_end, get-append_within}
use Rattle.rv_account.specs.state.State.{State}
use Rattle.rv_status.specs.declared.status.QueueRow.{QueueRow}
use Rattle.rv_survey.specs.Queues.{AreQueues, row_of_queue}

pub no_queue : (s : State) (rows : List QueueRow) → rows ≡ [] → AreQueues 0 s rows
no_queue s rows none = record {
  count = ap length none;
  each = λ queue below. absurd (omega arith);
}

last_row : (n : ℕ) (s : State) (rows : List QueueRow) → length rows ≡ n
    → slice_get (rows ++ row_of_queue s n ∷ []) n ≡ Some (row_of_queue s n)
last_row n s rows count =
    subst (λ (k : ℕ). slice_get (rows ++ row_of_queue s n ∷ []) k ≡ Some (row_of_queue s n)) count
    (get-append_end rows (row_of_queue s n))

pub one_queue_more : (n : ℕ) (s : State) (rows new : List QueueRow) → AreQueues n s rows
    → new ≡ rows ++ row_of_queue s n ∷ [] → AreQueues (n + 1) s new
one_queue_more n s rows new are is =
    subst (AreQueues (n + 1) s) (sym is)
    (record {
      count = length-append rows (row_of_queue s n ∷ []) ∙ ap (λ (k : ℕ). k + 1) are.count;
      each = λ queue below. elim (cases_lt queue n) [
        | inl before ↦
            let within : queue < length rows = omega (arith, are.count) in
            get-append_within rows (row_of_queue s n ∷ []) queue within ∙ are.each queue before
        | inr behind ↦
            let last : n ≡ queue = omega arith in
            subst (λ (k : ℕ). slice_get (rows ++ row_of_queue s n ∷ []) k ≡ Some (row_of_queue s k)) last
            (last_row n s rows are.count)
      ];
    })
