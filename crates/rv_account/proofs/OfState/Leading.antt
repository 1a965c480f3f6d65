-- Where a move leads: an account, its state, and an answer.
use Rattle.rv_account.proofs.OfState.Words.{◌≡◌, ◌++◌, ◌∙◌, ℕ, append-nil, sym, ap, subst, Answer, Act}
use Rattle.rv_account.proofs.OfState.Words.{Account, Legal}
use Rattle.rv_account.proofs.OfState.Words.{Legal-with_entry, State, following, Move, entering, staying}
use Rattle.rv_account.proofs.OfState.Words.{IsStateOf}
use Rattle.rv_account.proofs.OfState.EntersBoth.{Entered, own_entry}
use Rattle.rv_account.proofs.OfState.Stated.{stated}

-- the account after is the account before with the move's entries, its state is the move's, and so is the
-- answer
pub record IsMoveTo (a b : Account) (said : Answer) (move : Move) : Type 0 where
  pub epoch : b.epoch ≡ a.epoch
  pub opened : b.opened ≡ a.opened
  pub entries : b.entries ≡ a.entries ++ move.entries
  pub answer : said ≡ move.answer
  pub legal : Legal b
  pub state : IsStateOf b move.after

pub staying_leads : (a b : Account) (s : State) (answer said : Answer) → Legal a → IsStateOf a s → b ≡ a
    → answer ≡ said → IsMoveTo a b answer (staying s said)
staying_leads a b s answer said legal state same is = record {
  epoch = ap (λ (x : Account). x.epoch) same;
  opened = ap (λ (x : Account). x.opened) same;
  entries = ap (λ (x : Account). x.entries) same ∙ sym (append-nil a.entries);
  answer = is;
  legal = subst Legal (sym same) legal;
  state = subst (λ (x : Account). IsStateOf x s) (sym same) state;
}

pub entered_legal : (a b : Account) (s : State) (moment : ℕ) (does : Act) → Entered a s moment does b
    → Legal b
entered_legal a b s moment does entered =
    subst Legal (sym entered.is)
    (Legal-with_entry a (own_entry s moment does) entered.comes.legal entered.comes.follows)

pub entered_state : (a b : Account) (s : State) (moment : ℕ) (does : Act) → Entered a s moment does b
    → IsStateOf b (following s moment does).after
entered_state a b s moment does entered =
    subst (λ (x : Account). IsStateOf x (following s moment does).after) (sym entered.is)
    (stated a s (own_entry s moment does) entered.comes)

pub entering_leads : (a b : Account) (s : State) (moment : ℕ) (does : Act) (answer said : Answer)
    → Entered a s moment does b → answer ≡ said → IsMoveTo a b answer (entering s moment does said)
entering_leads a b s moment does answer said entered is = record {
  epoch = ap (λ (x : Account). x.epoch) entered.is;
  opened = ap (λ (x : Account). x.opened) entered.is;
  entries = ap (λ (x : Account). x.entries) entered.is;
  answer = is;
  legal = entered_legal a b s moment does entered;
  state = entered_state a b s moment does entered;
}
