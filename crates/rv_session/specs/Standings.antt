-- What a table says to a hello and to a key, as functions of the map.
use Rattle.std.specs.Prelude.{◌≡◌, ◌⊎◌, ◌+◌, ◌==◌, ℕ, Bool, List, [], ◌∷◌, Option, Some, None}
use Rattle.std.specs.Prelude.{if◌then◌else◌, is_some, nat_lt}
use Rattle.rv_text.specs.declared.version.Version.{Version}
use Rattle.rv_text.specs.declared.message.Key.{Key}
use Rattle.rv_text.specs.declared.answer.Refusal.TheVariants.{OtherEpoch, NoSession, OldIncarnation}
use Rattle.rv_text.specs.declared.answer.Refusal.TheVariants.{OldNumber, Busy, Gap}
use Rattle.rv_session.specs.declared.session.Session.{Session}
use Rattle.rv_session.specs.declared.session.RequestState.{RequestState}
use Rattle.rv_session.specs.declared.session.RequestState as state
use Rattle.rv_session.specs.declared.standing.Greeting.{Greeting}
use Rattle.rv_session.specs.declared.standing.Greeting.TheVariants.{Again, Unknown, Full, Newer, Older}
use Rattle.rv_session.specs.declared.standing.Greeting.TheVariants.{OtherVersion}
use Rattle.rv_session.specs.declared.standing.Standing.{Standing}
use Rattle.rv_session.specs.declared.standing.Standing.TheVariants.{Refused, Waits, Settled, Next}
use Rattle.rv_session.specs.Table.{Table, session_of, session_count, waiting_place}
use Rattle.rv_text.specs.Versions.{number_of_version}

-- the most clients of an epoch
abbrev pub max_clients : ℕ
max_clients = 1024

-- a table of lines, each with its condition and what it says: the first whose condition holds decides
abbrev pub first_that_holds : {A : Type 0} → List (Bool × A) → A → A
first_that_holds [] otherwise = otherwise
first_that_holds (line ∷ lines) otherwise = if line.0 then line.1 else first_that_holds lines otherwise

-- ---- a hello

-- where the client has a session
abbrev pub greeting_in : Session → ℕ → Version → Greeting
greeting_in session incarnation version = first_that_holds
    ((nat_lt incarnation session.incarnation, Older session.incarnation)
    ∷ (nat_lt session.incarnation incarnation, Newer (waiting_place session.state))
    ∷ (number_of_version version == number_of_version session.version, Again)
    ∷ []) (OtherVersion session.version)

-- where it has none, by how many clients have one
abbrev pub greeting_new : ℕ → Greeting
greeting_new count = if nat_lt count max_clients then Unknown else Full

abbrev pub greeting_for : Option Session → ℕ → ℕ → Version → Greeting
greeting_for None count incarnation version = greeting_new count
greeting_for (Some session) count incarnation version = greeting_in session incarnation version

-- what a client's hello with an incarnation and a version means to the table
abbrev pub greeting_of : Table → ℕ → ℕ → Version → Greeting
greeting_of t client incarnation version =
    greeting_for (session_of t client) (session_count t) incarnation version

-- the hello opens a session: for a new client, where there is room, or for a greater incarnation, where
-- nothing waits
abbrev pub Enters : Greeting → Type 0
Enters greeting = (greeting ≡ Unknown) ⊎ (greeting ≡ Newer None)

abbrev pub MayEnter : Table → ℕ → ℕ → Version → Type 0
MayEnter t client incarnation version = Enters (greeting_of t client incarnation version)

-- ---- a key

-- the last number: no request has the number 0 of a fresh session, so it counts as an old one
abbrev pub standing_last : ℕ → RequestState → Standing
standing_last last state.TheVariants.Fresh = Refused (OldNumber last)
standing_last last (state.TheVariants.Waits place) = Waits place
standing_last last (state.TheVariants.Settled place kept) = Settled place kept

-- where the client has a session
abbrev pub standing_in : Session → Key → Standing
standing_in session key = first_that_holds
    ((nat_lt session.incarnation key.incarnation, Refused NoSession)
    ∷ (nat_lt key.incarnation session.incarnation, Refused (OldIncarnation session.incarnation))
    ∷ (nat_lt key.number session.last, Refused (OldNumber session.last))
    ∷ (key.number == session.last, standing_last session.last session.state)
    ∷ (is_some (waiting_place session.state), Refused (Busy session.last))
    ∷ (nat_lt (session.last + 1) key.number, Refused (Gap session.last))
    ∷ []) Next

abbrev pub standing_for : Option Session → Key → Standing
standing_for None key = Refused NoSession
standing_for (Some session) key = standing_in session key

-- what the key means to the table
abbrev pub standing_of : Table → Key → Standing
standing_of t key =
    if key.epoch == t.epoch then standing_for (session_of t key.client) key else Refused (OtherEpoch t.epoch)
