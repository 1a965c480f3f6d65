-- What a visit of a connection does.
use Rattle.std.specs.Prelude.{ℕ, ◌≡◌, ◌+◌, ◌-◌, ◌<◌, ◌≤◌, ◌++◌, ◌∷◌, ◌⊎◌, ◌↔◌, [], Bool, false, IsTrue}
use Rattle.std.specs.Prelude.{length}
use Rattle.std.specs.Prelude.{List, Option, drop, take}
use Rattle.std.specs.Io.KnownBytes.{Appends, Consumes}
use Rattle.http.specs.declared.request.Request.{Request}
use Rattle.http_server.specs.declared.response.Response.{Response}
use Rattle.http_server.specs.declared.state.Config.{Config}
use Rattle.http_server.specs.Connection.{config_of, history}
use Rattle.http_server.specs.Exchange.{Calls}
use Rattle.http_server.specs.History.{History, IsDone, Rests, WantsRead, after_sent, new_history}
use Rattle.rv_status.specs.declared.visitor.Visitor.{Visitor}

-- heads of 4,096 bytes and no bodies; nothing is read while bytes wait to be sent
abbrev pub narrow : Config
narrow = record {
  limits = record { max_head_len = 4096; max_extensions_len = 0; max_trailers_len = 2 };
  max_body_len = 0;
  max_pending = 0;
  read_size = 4096;
}

-- a connection that came at a moment, over which nothing was said yet
pub record IsFresh {S : Type 0} (stream : S) (now : ℕ) (visitor : Visitor S) : Type 0 where
  pub over : visitor.stream ≡ stream
  pub silent : history visitor.connection ≡ new_history
  pub bounded : config_of visitor.connection ≡ narrow
  pub came : visitor.came ≡ now
  pub whole : visitor.is_broken ≡ false

-- it came a second ago or earlier, and its connection still reads what it asks for
abbrev pub IsLateToAsk : {S : Type 0} → ℕ → Visitor S → Type 0
IsLateToAsk now visitor = (visitor.came + 1000 ≤ now)
    × WantsRead (config_of visitor.connection) (history visitor.connection)

-- its socket failed; or all is said; or it came ten seconds ago or earlier; or it hasn't said within one
-- second what it asks for
abbrev pub IsLeaving : {S : Type 0} → ℕ → Visitor S → Type 0
IsLeaving now visitor =
    IsTrue visitor.is_broken ⊎ (IsDone (history visitor.connection) ⊎ ((visitor.came + 10000 ≤ now)
    ⊎ IsLateToAsk now visitor))

-- the socket gave these bytes, which the connection received, and no more
pub record ReceivesOnce {S : Type 0} (remaining : S → Option (List ℕ)) (old new : Visitor S) : Type 0 where
  pub more : List ℕ
  pub gives : Consumes (remaining old.stream) (remaining new.stream) more
  pub received : (history new.connection).received ≡ (history old.connection).received ++ more
  pub calls : (history new.connection).calls ≡ (history old.connection).calls
  pub config : config_of new.connection ≡ config_of old.connection
  pub came : new.came ≡ old.came

-- the socket took so many of the bytes that waited to be sent, and no others
pub record SendsOnce {S : Type 0} (contents : S → Option (List ℕ)) (old new : Visitor S) : Type 0 where
  pub count : ℕ
  pub takes : Appends (contents old.stream) (contents new.stream)
      (take count (history old.connection).pending)
  pub sent : history new.connection ≡ after_sent (history old.connection) count
  pub config : config_of new.connection ≡ config_of old.connection
  pub came : new.came ≡ old.came

-- What the socket gave was received, every call to the service that this allowed was made, and the socket
-- took a front of the bytes that then waited, if some did.
pub record IsVisit {S P : Type 0} (remaining contents : S → Option (List ℕ))
    (answers : P → Request (List ℕ) → Response → P → Type 0) (old new : Visitor S) (before after : P)
    (some : Bool) : Type 0
  where
    pub more : List ℕ
    pub middle : S
    pub gives : Consumes (remaining old.stream) (remaining middle) more
    pub rested : History
    pub received : rested.received ≡ (history old.connection).received ++ more
    pub calls : Calls answers before after (history old.connection).calls rested.calls
    pub rests : Rests (config_of old.connection) rested
    pub waited : IsTrue some ↔ (0 < length rested.pending)
    pub count : ℕ
    pub takes : Appends (contents middle) (contents new.stream) (take count rested.pending)
    pub sent : history new.connection ≡ after_sent rested count
    pub config : config_of new.connection ≡ config_of old.connection
    pub came : new.came ≡ old.came

-- a connection that is over is gone; any other goes after the rest
pub record StaysUnlessLeaving {S : Type 0} (now : ℕ) (visitor : Visitor S) (rest new : List (Visitor S)) :
    Type 0
  where
    pub goes : IsLeaving now visitor → new ≡ rest
    pub stays : ¬ (IsLeaving now visitor) → new ≡ rest ++ visitor ∷ []

-- the first has its turn, and the others none
abbrev pub Visits : {S P : Type 0} → (S → Option (List ℕ)) → (S → Option (List ℕ))
    → (P → Request (List ℕ) → Response → P → Type 0) → ℕ → List (Visitor S) → List (Visitor S) → P → P → Bool
    → Type 0
Visits remaining contents answers now [] new before after some =
    (new ≡ []) × (after ≡ before) × (some ≡ false)
Visits {S} remaining contents answers now (first ∷ rest) new before after some =
    (left : Visitor S) × IsVisit remaining contents answers first left before after some
    × StaysUnlessLeaving now left rest new

-- a fresh connection stands in front of the last 31
pub record Admits {S : Type 0} (now : ℕ) (stream : S) (old new : List (Visitor S)) : Type 0 where
  pub visitor : Visitor S
  pub fresh : IsFresh stream now visitor
  pub first : new ≡ visitor ∷ drop (length old - 31) old
