-- The state of a legal account is its state: by its entries, one after the other.
use Rattle.rv_account.proofs.OfState.Words.{◌≡◌, ◌≤◌, ◌<◌, ◌∷◌, ◌++◌, ◌∙◌, ℕ, zero, suc, List, [], take}
use Rattle.rv_account.proofs.OfState.Words.{length, Option}
use Rattle.rv_account.proofs.OfState.Words.{Some, None, refl, sym, ap, subst, arith, fold, slice_get, nat_cmp}
use Rattle.rv_account.proofs.OfState.Words.{none-some, Entry, Account, with_entry, Legal, IsLineOf, Open}
use Rattle.rv_account.proofs.OfState.Words.{ClientState}
use Rattle.rv_account.proofs.OfState.Words.{State, client_at, state_after, state_of, IsClientOrNew, IsStateOf}
use Rattle.std.specs.FinMap.{get-empty}
use Rattle.std.proofs.Math.Seq.{take-length, take-suc}
use Rattle.std.proofs.lemmas.List.Sums.{fold_push}
use Rattle.std.proofs.lemmas.Option.{get_or_from_slice_get}
use Rattle.rv_account.specs.rules.Legal.{before}
use Rattle.rv_account.proofs.OfRules.Fronts.{Legal-before}
use Rattle.rv_account.specs.state.State.{opening}
use Rattle.rv_account.proofs.OfState.Coming.{Comes}
use Rattle.rv_account.proofs.OfState.FollowsBoth.{account_to_state}
use Rattle.rv_account.proofs.OfState.Stated.{stated}

-- ---- no entry

none_open : IsLineOf (Open []) []
none_open =
    record {
      are = λ i r at. absurd (none-some r at);
      each = λ r opened. absurd (none-some opened.call opened.arrived);
      rising = λ i j p q less at there. absurd (none-some p at);
    }

no_client : (epoch opened client : ℕ) (o : Option ClientState) → None ≡ o
    → IsClientOrNew (record { epoch = epoch; opened = opened; entries = [] }) client o
no_client epoch opened client None none = λ said. none-some _ said.3
no_client epoch opened client (Some session) none = absurd (none-some session none)

opened_state : (epoch opened : ℕ)
    → IsStateOf (record { epoch = epoch; opened = opened; entries = [] }) (opening epoch opened)
opened_state epoch opened =
    record {
      epoch = refl;
      moment = refl;
      length = refl;
      in_order = none_open;
      arrivals = λ i there at. absurd (none-some there at);
      clients = λ client.
          no_client epoch opened client (client_at (opening epoch opened) client)
          (sym (get-empty nat_cmp client));
    }

-- ---- one entry more

-- the state by the first entries
abbrev state_by : Account → ℕ → State
state_by a n = fold state_after (opening a.epoch a.opened) (take n a.entries)

comes_at : (a : Account) (n : ℕ) (e : Entry) → Legal a → slice_get a.entries n ≡ Some e
    → IsStateOf (before a n) (state_by a n) → Comes (before a n) (state_by a n) e
comes_at a n e legal there state =
    let front = Legal-before a n legal in
    let follows = legal n e there in
    record {
      legal = front;
      state = state;
      follows = follows;
      partners = (account_to_state (before a n) (state_by a n) e front state follows).partners;
    }

there_is : {X : Type 0} (xs : List X) (n : ℕ) → n < length xs → (x : X) × (slice_get xs n ≡ Some x)
there_is [] n less = absurd (omega arith)
there_is (x ∷ xs) zero less = (x, refl)
there_is (x ∷ xs) (suc n) less = there_is xs n (omega arith)

-- the account with its entries up to that one
upto : (a : Account) (n : ℕ) (e : Entry) → slice_get a.entries n ≡ Some e → n < length a.entries
    → take (suc n) a.entries ≡ take n a.entries ++ e ∷ []
upto a n e there less =
    take-suc a.entries n e less
    ∙ ap (λ x. take n a.entries ++ x ∷ []) (get_or_from_slice_get a.entries n e e there)

-- a list of entries as an account of this epoch and opening, and its state
abbrev Agrees : Account → List Entry → Type 0
Agrees a es =
    IsStateOf (record { epoch = a.epoch; opened = a.opened; entries = es })
    (fold state_after (opening a.epoch a.opened) es)

agreed_by : (a : Account) (n : ℕ) → n ≤ length a.entries → Legal a → Agrees a (take n a.entries)
agreed_by a zero few legal = opened_state a.epoch a.opened
agreed_by a (suc n) few legal =
    let there = there_is a.entries n (omega arith) in
    let e : Entry = there.0 in
    let comes = comes_at a n e legal there.1 (agreed_by a n (omega arith) legal) in
    let after : IsStateOf (with_entry (before a n) e) (state_after (state_by a n) e) =
    stated (before a n) (state_by a n) e comes in
    let pushed : fold state_after (opening a.epoch a.opened) (take n a.entries ++ e ∷ [])
    ≡ state_after (state_by a n) e = fold_push state_after (opening a.epoch a.opened) (take n a.entries) e in
    let agrees : Agrees a (take n a.entries ++ e ∷ []) =
    subst (IsStateOf (with_entry (before a n) e)) (sym pushed) after in
    subst (Agrees a) (sym (upto a n e there.1 (omega arith))) agrees

pub agreed : (a : Account) → Legal a → IsStateOf a (state_of a)
agreed a legal =
    subst (Agrees a) (take-length a.entries) (agreed_by a (length a.entries) (omega arith) legal)

-- the state of an account with one entry more
pub state_pushed : (a : Account) (e : Entry) → state_of (with_entry a e) ≡ state_after (state_of a) e
state_pushed a e = fold_push state_after (opening a.epoch a.opened) a.entries e
