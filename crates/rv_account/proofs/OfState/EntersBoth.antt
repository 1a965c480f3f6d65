-- The own entry of an account is that of its state.
use Rattle.rv_account.proofs.OfState.Words.{◌≡◌, ◌∙◌, ℕ, List, refl, ap, subst, Act, Entry, Account}
use Rattle.rv_account.proofs.OfState.Words.{with_entry, Legal}
use Rattle.rv_account.proofs.OfState.Words.{MayFollow, Legal-with_entry, State, partners_of, IsStateOf}
use Rattle.rv_account.specs.Account.{entry}
use Rattle.rv_account.specs.rules.Steps.{Adds}
use Rattle.rv_account.proofs.OfRules.Legality.{follows_itself}
use Rattle.rv_account.specs.state.Follows.{MomentFits, NumberFits}
use Rattle.rv_account.proofs.OfState.Coming.{Comes}
use Rattle.rv_account.proofs.OfState.FollowsBoth.{account_to_state, state_to_account}

-- the entry of a moment and an act, with the partners that the state says
abbrev pub own_entry : State → ℕ → Act → Entry
own_entry s moment does = entry moment does (partners_of s does)

same_entry : (e : Entry) (moment : ℕ) (does : Act) (partners : List ℕ) → e.moment ≡ moment → e.act ≡ does
    → e.partners ≡ partners → e ≡ entry moment does partners
same_entry e moment does partners moments acts places =
    λ i. record { moment = moments i; act = acts i; partners = places i }

-- the account is that with the own entry, which may follow
pub record Entered (a : Account) (s : State) (moment : ℕ) (does : Act) (b : Account) : Type 0 where
  pub comes : Comes a s (own_entry s moment does)
  pub is : b ≡ with_entry a (own_entry s moment does)

pub adds_own : (a b : Account) (s : State) (moment : ℕ) (does : Act) → Legal a → IsStateOf a s
    → Adds a moment does b → Entered a s moment does b
adds_own a b s moment does legal state adds =
    let e = adds.entry in
    let follows : MayFollow a e = follows_itself a e (subst Legal adds.follows adds.legal) in
    let partners : e.partners ≡ partners_of s does =
    (account_to_state a s e legal state follows).partners ∙ ap (partners_of s) adds.act_is in
    let same : e ≡ own_entry s moment does =
    same_entry e moment does (partners_of s does) adds.moment_is adds.act_is partners in
    record {
      comes = record {
        legal = legal;
        state = state;
        follows = subst (MayFollow a) same follows;
        partners = refl;
      };
      is = adds.follows ∙ ap (with_entry a) same;
    }

-- what fits may enter
pub own_comes : (a : Account) (s : State) (moment : ℕ) (does : Act) → Legal a → IsStateOf a s
    → MomentFits s moment does → NumberFits s does → Comes a s (own_entry s moment does)
own_comes a s moment does legal state moment_fits number_fits = record {
  legal = legal;
  state = state;
  follows = state_to_account a s (own_entry s moment does) legal state
      (record { moment = moment_fits; number = number_fits; partners = refl });
  partners = refl;
}

pub comes_adds : (a : Account) (s : State) (moment : ℕ) (does : Act) → Comes a s (own_entry s moment does)
    → Adds a moment does (with_entry a (own_entry s moment does))
comes_adds a s moment does comes = record {
  entry = own_entry s moment does;
  moment_is = refl;
  act_is = refl;
  follows = refl;
  legal = Legal-with_entry a (own_entry s moment does) comes.legal comes.follows;
}
