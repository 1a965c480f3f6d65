-- What is known where an entry comes: a legal account, its state, and that the entry may follow.
use Rattle.rv_account.proofs.OfState.Words.{Account, Entry, Legal, MayFollow, State, partners_of, IsStateOf}
use Rattle.std.specs.Prelude.{◌≡◌, ◌∷◌, [], ◌++◌, List}

-- a legal account with its state, and an entry that may follow, which names whom the state says
pub record Comes (a : Account) (s : State) (e : Entry) : Type 0 where
  pub legal : Legal a
  pub state : IsStateOf a s
  pub follows : MayFollow a e
  pub partners : e.partners ≡ partners_of s e.act

-- the entries with that one after them
abbrev pub more : Account → Entry → List Entry
more a e = a.entries ++ e ∷ []
