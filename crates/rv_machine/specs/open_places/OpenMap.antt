-- What is open, as the machine keeps it: a list of open places that rise, and what is read off it.
use Rattle.std.specs.Prelude.{◌≡◌, ◌≢◌, ◌<◌, ℕ, List, [], length, slice_get, Some, None, nat_eq, not, filter}
use Rattle.std.specs.Prelude.{find}
use Rattle.std.specs.Prelude.{Option, is_some, map, nat_lt, option_and_then, option_map}
use Rattle.std.specs.FinMap.{FinMap, from_entries, keys}
use Rattle.std.specs.FinSet.{from_list, insert, remove}
use Rattle.std.specs.List.{filter_map}
use Rattle.std.specs.Map.{values_of}
use Rattle.rv_text.specs.declared.call.Side.{Side}
use Rattle.rv_session.specs.OwedDuty.{OwedDuty}
use Rattle.rv_account.specs.Calls.{opposite}
use Rattle.rv_dual.specs.Above.{is_above}
use Rattle.rv_due.specs.Deadlines.{Deadline, Deadlines, by_moment}
pub use Rattle.rv_account.specs.rules.Reach.{most_counted}
use Rattle.rv_account.specs.state.State.{OpenPlace, same_side}
use Rattle.rv_account.specs.state.After.{deadline_of_place}

-- each stands before those of greater places
abbrev pub PlacesRise : List OpenPlace → Type 0
PlacesRise all = (i j : ℕ) (one other : OpenPlace) → i < j → slice_get all i ≡ Some one
    → slice_get all j ≡ Some other → one.place < other.place

-- all stand below a place
abbrev pub StandBelow : List OpenPlace → ℕ → Type 0
StandBelow all place = (i : ℕ) (one : OpenPlace) → slice_get all i ≡ Some one → one.place < place

-- the one at a place
abbrev pub found_at : List OpenPlace → ℕ → Option OpenPlace
found_at all place = find (λ o. nat_eq o.place place) all

-- all but the one at a place
abbrev pub all_but : List OpenPlace → ℕ → List OpenPlace
all_but all place = filter (λ o. not (nat_eq o.place place)) all

-- those of a side
abbrev pub line_in : List OpenPlace → Side → List OpenPlace
line_in all side = filter (λ o. same_side o.side side) all

-- the first of a line at a place above another, or the first of all
abbrev pub first_behind : Option ℕ → List OpenPlace → Option OpenPlace
first_behind after line = find (λ o. is_above after o.place) line

-- those of a side, if there is one
abbrev pub facing : List OpenPlace → Option Side → List OpenPlace
facing all None = []
facing all (Some side) = line_in all side

-- those that an arrival of this side meets, the oldest first
abbrev pub opposed_in : List OpenPlace → Side → List OpenPlace
opposed_in all side = facing all (opposite side)

-- how many requests wait
abbrev pub count_waiting : List OpenPlace → ℕ
count_waiting all = length (filter (λ o. is_some o.waiter) all)

-- the duty that is owed to the request that waits at an open place
abbrev pub duty_at : OpenPlace → Option OwedDuty
duty_at there = option_map (λ w. record { place = there.place; client = w.key.client }) there.waiter

-- the duty that is owed at a place
abbrev pub owed_among : List OpenPlace → ℕ → Option OwedDuty
owed_among all place = option_and_then duty_at (found_at all place)

-- the deadlines of what is open
abbrev pub deadlines_in : List OpenPlace → Deadlines
deadlines_in all = from_list (filter_map deadline_of_place all)

-- with nothing at each
abbrev pub marked : List Deadline → List (Deadline × Unit {0})
marked list = map (λ deadline. (deadline, tt)) list

-- the same in order, the least first
abbrev pub limits_map : List OpenPlace → FinMap by_moment (Unit {0})
limits_map all = from_entries (marked (filter_map deadline_of_place all))

-- the places whose limit is at or before a moment, by limit and then place
abbrev pub due_in : List OpenPlace → ℕ → List OpenPlace
due_in all moment =
    filter_map (λ deadline. found_at all deadline.1)
    (filter (λ deadline. not (nat_lt moment deadline.0)) (keys (limits_map all)))

-- the moment is the first at which something is due
pub record IsFirstDue (all : List OpenPlace) (moment : ℕ) : Type 0 where
  pub due : due_in all moment ≢ []
  pub none_before : (earlier : ℕ) → earlier < moment → due_in all earlier ≡ []

-- nothing is ever due
abbrev pub NeverDue : List OpenPlace → Type 0
NeverDue all = (moment : ℕ) → due_in all moment ≡ []

-- with the limit of one at a place, if it has one
abbrev pub with_limit : Option ℕ → ℕ → Deadlines → Deadlines
with_limit None place due = due
with_limit (Some limit) place due = insert due (limit, place)

-- and without it
abbrev pub without_limit : Option ℕ → ℕ → Deadlines → Deadlines
without_limit None place due = due
without_limit (Some limit) place due = remove due (limit, place)

-- each is kept under its place
abbrev pub StandUnderPlaces : List (ℕ × OpenPlace) → Type 0
StandUnderPlaces kept = (i : ℕ) (e : ℕ × OpenPlace) → slice_get kept i ≡ Some e → e.0 ≡ e.1.place

-- what a map from places keeps is open at them
pub record AreOpens (kept : List (ℕ × OpenPlace)) : Type 0 where
  pub under : StandUnderPlaces kept
  pub rise : PlacesRise (values_of kept)
