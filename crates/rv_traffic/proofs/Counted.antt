-- What is told of turns, and the terms of each.
use Rattle.std.proofs.Common.{◌≡◌, ◌<◌, ◌+◌, ◌∙◌, ◌∷◌, ℕ, Bool, List, Option, ap, arith, cond, length}
use Rattle.std.proofs.Common.{subst, sym}
use Rattle.std.proofs.lemmas.List.Sums.{count_by-le-length, sum_by-cons}
use Rattle.rv_hub.specs.dispatcher.View.{DispatcherTerms}
use Rattle.rv_traffic.specs.declared.outcomes.ReadFaults.{ReadFaults}
use Rattle.rv_traffic.specs.declared.outcomes.Reading.{Reading}
use Rattle.rv_traffic.specs.declared.outcomes.Writing.{Writing}
use Rattle.rv_traffic.specs.Rounds.{ReadsTurn, Turn, WritesTurn, is_read_broken, is_read_refused}
use Rattle.rv_traffic.specs.Rounds.{is_write_broken, read_faults, write_faults}
use Rattle.rv_traffic.specs.Views.{TrafficState}

module _ {S : Type 0} where
  pub read_turn_at : (remaining : S → Option (List ℕ)) (room : ℕ) (journal same : Bool) (terms as_before :
      DispatcherTerms)
      (now : ℕ) (old : TrafficState S) (turn : Turn Reading) (new : TrafficState S) → same ≡ journal
      → as_before ≡ terms → ReadsTurn remaining room same as_before now old turn new
      → ReadsTurn remaining room journal terms now old turn new
  read_turn_at remaining room journal same terms as_before now old turn new keeps terms_keep is =
      subst (λ (b : Bool). ReadsTurn remaining room b terms now old turn new) keeps
      (subst (λ (t : DispatcherTerms). ReadsTurn remaining room same t now old turn new) terms_keep is)

  pub write_turn_at : (contents : S → Option (List ℕ)) (journal same : Bool) (terms as_before :
      DispatcherTerms)
      (now : ℕ) (old : TrafficState S) (turn : Turn Writing) (new : TrafficState S) → same ≡ journal
      → as_before ≡ terms → WritesTurn contents same as_before now old turn new
      → WritesTurn contents journal terms now old turn new
  write_turn_at contents journal same terms as_before now old turn new keeps terms_keep is =
      subst (λ (b : Bool). WritesTurn contents b terms now old turn new) keeps
      (subst (λ (t : DispatcherTerms). WritesTurn contents same t now old turn new) terms_keep is)

pub read_counted : (turn : Turn Reading) (before after : ReadFaults)
    → after.broken ≡ cond (is_read_broken turn.came) 1 0 + before.broken
    → after.no_memory ≡ cond (is_read_refused turn.came) 1 0 + before.no_memory
    → (turns : List (Turn Reading)) → before ≡ read_faults turns → after ≡ read_faults (turn ∷ turns)
read_counted turn before after broken no_memory turns is =
    let at_broken : after.broken ≡ (read_faults (turn ∷ turns)).broken =
    broken ∙ ap (λ (f : ReadFaults). cond (is_read_broken turn.came) 1 0 + f.broken) is
    ∙ sym (sum_by-cons (λ (t : Turn Reading). cond (is_read_broken t.came) 1 0) turn turns) in
    let at_no_memory : after.no_memory ≡ (read_faults (turn ∷ turns)).no_memory =
    no_memory ∙ ap (λ (f : ReadFaults). cond (is_read_refused turn.came) 1 0 + f.no_memory) is
    ∙ sym (sum_by-cons (λ (t : Turn Reading). cond (is_read_refused t.came) 1 0) turn turns) in
    ap (λ (n : ℕ). record after { broken = n }) at_broken
    ∙ ap (λ (n : ℕ). record (read_faults (turn ∷ turns)) { no_memory = n }) at_no_memory

pub write_counted : (turn : Turn Writing) (before after : ℕ)
    → after ≡ cond (is_write_broken turn.came) 1 0 + before
    → (turns : List (Turn Writing)) → before ≡ write_faults turns → after ≡ write_faults (turn ∷ turns)
write_counted turn before after broken turns is =
    broken ∙ ap (λ (n : ℕ). cond (is_write_broken turn.came) 1 0 + n) is
    ∙ sym (sum_by-cons (λ (t : Turn Writing). cond (is_write_broken t.came) 1 0) turn turns)

-- at most as many fail as have a turn
pub few_broken : (turns : List (Turn Reading)) (faults : ReadFaults) (most : ℕ) → faults ≡ read_faults turns
    → length turns < most → faults.broken < most
few_broken turns faults most is few =
    let count = ap (λ (f : ReadFaults). f.broken) is in
    let within = count_by-le-length (λ (t : Turn Reading). is_read_broken t.came) turns in
    omega (arith, count, within, few)

pub few_refused : (turns : List (Turn Reading)) (faults : ReadFaults) (most : ℕ) → faults ≡ read_faults turns
    → length turns < most → faults.no_memory < most
few_refused turns faults most is few =
    let count = ap (λ (f : ReadFaults). f.no_memory) is in
    let within = count_by-le-length (λ (t : Turn Reading). is_read_refused t.came) turns in
    omega (arith, count, within, few)

pub few_unwritten : (turns : List (Turn Writing)) (broken most : ℕ) → broken ≡ write_faults turns
    → length turns < most → broken < most
few_unwritten turns broken most is few =
    let within = count_by-le-length (λ (t : Turn Writing). is_write_broken t.came) turns in
    omega (arith, is, within, few)
