-- An entry may follow a legal account exactly where it may follow its state.
use Rattle.rv_account.proofs.OfState.Words.{Entry, Account, Legal, MayFollow, State, IsStateOf}
use Rattle.rv_account.specs.state.Follows.{FollowsState}
use Rattle.rv_account.proofs.OfState.MomentsBoth.{fitting_moments, moments_fit}
use Rattle.rv_account.proofs.OfState.NumbersBoth.{fitting_numbers, numbers_fit}
use Rattle.rv_account.proofs.OfState.PairsBoth.{fitting_pairs, pairs_fit}

pub account_to_state : (a : Account) (s : State) (e : Entry) → Legal a → IsStateOf a s → MayFollow a e
    → FollowsState s e
account_to_state a s e legal state follows = record {
  moment = moments_fit a s e.moment e.act state follows.moments;
  number = numbers_fit a s e.act legal state follows.numbers;
  partners = pairs_fit a s e state follows;
}

pub state_to_account : (a : Account) (s : State) (e : Entry) → Legal a → IsStateOf a s → FollowsState s e
    → MayFollow a e
state_to_account a s e legal state follows = record {
  moments = fitting_moments a s e.moment e.act legal state follows.moment;
  numbers = fitting_numbers a s e.act legal state follows.number;
  pairs = fitting_pairs a s e state follows.partners;
}
