-- Shares of those that wait, as far as they are taken.
use Rattle.std.proofs.Common.{◌≡◌, ◌≢◌, ◌≤◌, ◌∙◌, ◌++◌, ◌+◌, ℕ, Bool, List, [], ◌∷◌, ◌⊎◌, ap, append-nil}
use Rattle.std.proofs.Common.{append_assoc, arith, inr, length, map, refl, subst, sym}
use Rattle.std.specs.Prelude.{AllPairs}
use Rattle.rv_hub.specs.dispatcher.View.{DispatcherTerms}
use Rattle.rv_traffic.specs.declared.traffic.TheConstants.{SHARES}
use Rattle.rv_traffic.specs.Calls.{IsOverfull, OffersOne}
use Rattle.rv_traffic.specs.Rounds.{SharesNext, SharesNone, SharesOut, SharesTurn, TakesShares, Turn}
use Rattle.rv_traffic.specs.Views.{TrafficState, WaitLists}
use Rattle.rv_traffic.specs.Waiting.{shares_begun}
use Rattle.rv_traffic.proofs.Staying.{taken_due}

pub record SharedSoFar {S : Type 0} (journal : Bool) (terms : DispatcherTerms) (now : ℕ)
    (old s : TrafficState S) (count : ℕ) : Type 0
  where
    pub turns : List (Turn Bool)
    pub taken : TakesShares (SharesTurn journal terms now)
        (record old { waits = shares_begun old.waits }) turns s
    pub parts : (shares_begun old.waits).due ≡ s.waits.due ++ map (λ turn. turn.number) turns
    pub count_is : length turns ≡ count

-- nothing changes where none is listed
pub none_popped : (old new : WaitLists) → old.due ≡ [] → new.due ≡ [] → new ≡ record old { due = new.due }
    → new ≡ old
none_popped old new none over rest =
    rest ∙ ap (λ (l : List ℕ). record old { due = l }) (over ∙ sym none)

module _ {S : Type 0} (journal : Bool) (terms : DispatcherTerms) (now : ℕ) where
  pub next_at : (same : Bool) (as_before : DispatcherTerms) (old new : TrafficState S) → same ≡ journal
      → as_before ≡ terms → SharesNext same as_before now old new → SharesNext journal terms now old new
  next_at same as_before old new keeps terms_keep is =
      subst (λ (b : Bool). SharesNext b terms now old new) keeps
      (subst (λ (t : DispatcherTerms). SharesNext same t now old new) terms_keep is)

  -- one that was listed last has its share
  pub due_taken : (old : TrafficState S) (waits : WaitLists) (turn : Turn Bool) (new : TrafficState S)
      → old.waits.due ≡ waits.due ++ turn.number ∷ []
      → waits ≡ record old.waits { due = waits.due }
      → SharesTurn journal terms now (record old { waits = waits }) turn new
      → SharesNext journal terms now old new
  due_taken old waits turn new last rest taken = (
    turn,
    record {
      due = waits.due;
      last = last;
      taken = subst (λ (w : WaitLists). SharesTurn journal terms now (record old { waits = w }) turn new) rest
          taken;
    },
  )

  pub none_shared : (old s : TrafficState S) → s ≡ record old { waits = shares_begun old.waits }
      → SharedSoFar journal terms now old s 0
  none_shared old s begun = record {
    turns = [];
    taken = begun;
    parts = ap (λ (t : TrafficState S). t.waits.due) (sym begun) ∙ sym (append-nil s.waits.due);
    count_is = refl;
  }

  pub one_shared : (old s t : TrafficState S) (count : ℕ) → SharesNext journal terms now s t
      → SharedSoFar journal terms now old s count → SharedSoFar journal terms now old t (count + 1)
  one_shared old s t count (turn, next) so_far =
      let numbers = map (λ (turn : Turn Bool). turn.number) so_far.turns in
      let due : t.waits.due ≡ next.due =
      taken_due (λ (n : ℕ). OffersOne journal terms now n) _ turn t next.taken in
      record {
        turns = turn ∷ so_far.turns;
        taken = (s, so_far.taken, next);
        parts = so_far.parts ∙ ap (λ (l : List ℕ). l ++ numbers) next.last
            ∙ append_assoc next.due (turn.number ∷ []) numbers
            ∙ ap (λ (l : List ℕ). l ++ turn.number ∷ numbers) (sym due);
        count_is = (let is = so_far.count_is in omega (arith, is));
      }

  -- all have had theirs, or no more are given
  pub all_shared : (room : ℕ) (old s : TrafficState S) (count : ℕ)
      → AllPairs (λ one other. one ≢ other) (shares_begun old.waits).due → count ≤ SHARES
      → (count ≡ SHARES) ⊎ ((s.waits.due ≡ []) ⊎ IsOverfull s room)
      → SharedSoFar journal terms now old s count → SharesOut room journal terms now old s
  all_shared room old s count once few why so_far = record {
    turns = so_far.turns;
    taken = so_far.taken;
    numbers = so_far.parts;
    once = once;
    most = subst (λ (n : ℕ). n ≤ SHARES) (sym so_far.count_is) few;
    whole = subst (λ (n : ℕ). (n ≡ SHARES) ⊎ ((s.waits.due ≡ []) ⊎ IsOverfull s room))
        (sym so_far.count_is) why;
  }

  pub none_more : (room : ℕ) (old s t : TrafficState S) (count : ℕ)
      → AllPairs (λ one other. one ≢ other) (shares_begun old.waits).due → count ≤ SHARES
      → SharesNone room s t → SharedSoFar journal terms now old s count
      → SharesOut room journal terms now old t
  none_more room old s t count once few none so_far =
      subst (λ (u : TrafficState S). SharesOut room journal terms now old u) (sym none.same)
      (all_shared room old s count once few (inr none.why) so_far)
