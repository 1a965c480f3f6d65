-- What is checked of an entry's partners one by one, and of the line of those that its call might meet.
use Rattle.std.specs.Prelude.{◌≡◌, ◌<◌, ℕ, List, length, Some, slice_get}
use Rattle.rv_text.specs.declared.call.Call.{Call}
pub use Rattle.rv_dual.specs.Above.{first_above, is_above}
use Rattle.rv_account.specs.Account.{Among}
use Rattle.rv_account.specs.Calls.{may_name}
use Rattle.rv_account.specs.state.Kept.{IsOpposite}
use Rattle.rv_account.specs.state.State.{State, opposites, place_list}

-- this holds of each of these places; this holds of each of the first so many
abbrev pub HoldsOfAll : (ℕ → Type 0) → List ℕ → Type 0
HoldsOfAll Holds places = (p : ℕ) → Among places p → Holds p

abbrev pub HoldsBefore : (ℕ → Type 0) → List ℕ → ℕ → Type 0
HoldsBefore Holds places n = (i p : ℕ) → i < n → slice_get places i ≡ Some p → Holds p

-- the places of those that a call might meet, the oldest first
abbrev pub facing_places : State → Call → List ℕ
facing_places s call = place_list (opposites s call)

-- the first so many of these places are the first of the others
abbrev pub AgreeBefore : List ℕ → List ℕ → ℕ → Type 0
AgreeBefore places others n = (i : ℕ) → i < n → slice_get others i ≡ slice_get places i

-- these places are the first of the others
abbrev pub LeadsLine : List ℕ → List ℕ → Type 0
LeadsLine places others = AgreeBefore places others (length places)

-- each place that a call might meet and that comes before one of these is one of these
abbrev pub TakesOldest : State → Call → List ℕ → Type 0
TakesOldest s call places = (p r : ℕ) → Among places p → IsOpposite s call r → r < p → Among places r

-- these places are as many as the call may name, or all that it might meet
abbrev pub NamesEachFacing : State → Call → List ℕ → Type 0
NamesEachFacing s call places = (r : ℕ) → length places < may_name call → IsOpposite s call r → Among places r
