-- Each rule of a legal account is kept by an entry exactly where it is kept by the state.
use Rattle.rv_account.proofs.OfState.Words.{◌≡◌, ◌≤◌, ℕ, refl, arith, Act, Arrive, Cancel, Hello, Tick}
use Rattle.rv_account.proofs.OfState.Words.{Entry, Account}
use Rattle.rv_account.proofs.OfState.Words.{own_moment, Legal, State, IsStateOf}
use Rattle.rv_account.specs.rules.Legal.{CancelsInTurn, CountsUp, IsOfSession, KeepsTime, RaisesIncarnation}
use Rattle.rv_account.specs.state.Kept.{HelloRises, KeyInSession, NumberInTurn, RulesAgree}
use Rattle.rv_account.proofs.OfState.ClientParts.{account_to_session, lower_to_above, session_to_account}
use Rattle.rv_account.proofs.OfState.MomentsBoth.{due_to_limits, limits_to_due}
use Rattle.rv_account.proofs.OfState.NamedPlaces.{free_to_well, oldest_from, oldest_to, open_to_free}
use Rattle.rv_account.proofs.OfState.NamedPlaces.{opposites_from}
use Rattle.rv_account.proofs.OfState.NamedPlaces.{opposites_open, opposites_to, possible_from, possible_to}
use Rattle.rv_account.proofs.OfState.NumbersBoth.{fitting_numbers, next_to_state, turn_to_state}
use Rattle.rv_account.proofs.OfState.OwnMoment.{later_keeps_time, time_is_later}

module _ (a : Account) (s : State) (legal : Legal a) (state : IsStateOf a s) where
  -- ---- the moment

  time_to : (moment : ℕ) → KeepsTime a moment → s.moment ≤ moment
  time_to moment time =
      let own : s.moment ≡ own_moment a = state.moment in
      let least : own_moment a ≤ moment = time_is_later a moment time in
      omega arith

  time_from : (moment : ℕ) → s.moment ≤ moment → KeepsTime a moment
  time_from moment later =
      let own : s.moment ≡ own_moment a = state.moment in
      later_keeps_time a moment legal (omega arith)

  -- ---- incarnations

  incarnation_to : (does : Act) → RaisesIncarnation a.entries does → HelloRises s does
  incarnation_to (Hello client incarnation version) raises =
      lower_to_above a s client incarnation state (raises client incarnation version refl)
  incarnation_to (Arrive key call) raises = tt
  incarnation_to (Cancel key) raises = tt
  incarnation_to Tick raises = tt

  incarnation_from : (does : Act) → HelloRises s does → RaisesIncarnation a.entries does
  incarnation_from (Hello client incarnation version) rises =
      (fitting_numbers a s (Hello client incarnation version) legal state rises).raises_incarnation
  incarnation_from (Arrive key call) rises = λ c i v is. absurd (let no : ⊥ = cc in no)
  incarnation_from (Cancel key) rises = λ c i v is. absurd (let no : ⊥ = cc in no)
  incarnation_from Tick rises = λ c i v is. absurd (let no : ⊥ = cc in no)

  -- ---- sessions

  session_to : (does : Act) → IsOfSession a does → KeyInSession s does
  session_to does of key is =
      let has = of key is in
      account_to_session a s key state has.0 has.1

  session_from : (does : Act) → KeyInSession s does → IsOfSession a does
  session_from does of key is =
      let session = of key is in
      session_to_account a s key session.0 state session.1

  -- ---- numbers

  number_to : (does : Act) → KeyInSession s does → CountsUp a.entries does × CancelsInTurn a.entries does
      → NumberInTurn s does
  number_to (Hello client incarnation version) of keeps = tt
  number_to (Arrive key call) of keeps =
      let session = of key refl in
      next_to_state a s key session.0 legal state session.1 (keeps.0 key call refl)
  number_to (Cancel key) of keeps =
      let session = of key refl in
      turn_to_state a s key session.0 legal state session.1 (keeps.1 key refl)
  number_to Tick of keeps = tt

  number_from : (does : Act) → NumberInTurn s does → CountsUp a.entries does × CancelsInTurn a.entries does
  number_from (Hello client incarnation version) turn = (
    λ key call is. absurd (let no : ⊥ = cc in no),
    λ key is. absurd (let no : ⊥ = cc in no),
  )
  number_from (Arrive key call) turn =
      let keeps = fitting_numbers a s (Arrive key call) legal state turn in
      (keeps.counts_up, keeps.cancels)
  number_from (Cancel key) turn =
      let keeps = fitting_numbers a s (Cancel key) legal state turn in
      (keeps.counts_up, keeps.cancels)
  number_from Tick turn =
      let keeps = fitting_numbers a s Tick legal state turn in
      (keeps.counts_up, keeps.cancels)

pub rules_agree : (a : Account) (s : State) (e : Entry) → Legal a → IsStateOf a s → RulesAgree a s e
rules_agree a s e legal state = record {
  time = (time_to a s legal state e.moment, time_from a s legal state e.moment);
  limits = (limits_to_due a s e.moment e.act state, due_to_limits a s e.moment e.act state);
  incarnation = (incarnation_to a s legal state e.act, incarnation_from a s legal state e.act);
  session = (session_to a s legal state e.act, session_from a s legal state e.act);
  number = λ of. (number_to a s legal state e.act of, number_from a s legal state e.act);
  well = free_to_well a s state e;
  free = open_to_free a s state e;
  names_open = opposites_open a s state e;
  opposites = λ well. (opposites_to a s state e well, opposites_from a s state e);
  oldest = λ well named. (oldest_to a s state e named, oldest_from a s state e well named);
  all = (possible_to a s state e, possible_from a s state e);
}
