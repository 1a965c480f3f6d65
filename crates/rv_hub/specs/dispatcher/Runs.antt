-- What the effects of a dispatcher are to the account: steps of messages and time alone, one after another.
use Rattle.std.specs.Prelude.{ℕ, ◌≡◌, ◌≢◌, ◌≤◌, ◌⊎◌, List, [], ◌∷◌, ◌++◌, Contains, IsSome, None, Some}
use Rattle.std.specs.Prelude.{flat_map}
use Rattle.rv_text.specs.declared.message.Message.{Message}
use Rattle.rv_account.specs.declared.entry.Entry.{Entry}
use Rattle.rv_account.specs.rules.StepLimits.{StepLimits}
use Rattle.rv_account.specs.state.State.{State}
use Rattle.rv_server_connections.specs.connection.Traffic.{Traffic}
use Rattle.rv_account.specs.state.Moves.{Move, StateNextAtUnder, ticked_at}
use Rattle.rv_hub.specs.dispatcher.View.{DispatcherState, DispatcherTerms}
use Rattle.rv_hub.specs.dispatcher.Effects.{Effect, DoesAll, entries_of_effect, told_in_effects}
use Rattle.rv_hub.specs.dispatcher.Order.{IsTurn}

-- what leads from one state of the account to the next: time alone up to a moment, or a message at the moment
-- to which time has gone on
pub data Cause : Type 0 where
  Time : (moment : ℕ) → Cause
  Heard : (message : Message) → Cause

-- the states that causes lead to, in order, with all entries that they make
abbrev pub RunsBook : StepLimits → ℕ → State → List Cause → List Entry → ℕ → State → Type 0
RunsBook limits now s [] entries later t = (entries ≡ []) × (later ≡ now) × (t ≡ s)
RunsBook limits now s (Time moment ∷ causes) entries later t =
    (rest : List Entry) × (now ≤ moment) × (entries ≡ (ticked_at s moment).entries ++ rest)
    × RunsBook limits moment (ticked_at s moment).after causes rest later t
RunsBook limits now s (Heard message ∷ causes) entries later t =
    (move : Move) × (rest : List Entry) × StateNextAtUnder limits s now message move
    × (entries ≡ move.entries ++ rest) × RunsBook limits now move.after causes rest later t

-- to the book the effects are one such run, and they make its entries
abbrev pub EffectsAreOneRun : Type 0
EffectsAreOneRun = (terms : DispatcherTerms) (effects : List Effect) (old new : DispatcherState)
    → DoesAll terms old effects new
    → (causes : List Cause)
    × RunsBook terms.limits old.now old.book causes (flat_map entries_of_effect effects) new.now new.book

-- a connection stays as it is, or is closed, or is among those that were told
abbrev pub StaysOrTold : DispatcherState → List ℕ → ℕ → DispatcherState → Type 0
StaysOrTold s told n t = (t.open_wires.wires n ≡ s.open_wires.wires n)
    ⊎ ((t.open_wires.wires n ≡ None) ⊎ Contains told n)

-- so it is with each connection through another's turn
abbrev pub OthersStay : Type 0
OthersStay = (terms : DispatcherTerms) (old new : DispatcherState) (connection : ℕ) (piece : List ℕ)
    (effects : List Effect)
    (count : ℕ)
    → IsTurn terms old connection piece effects count new → (other : ℕ) → other ≢ connection
    → StaysOrTold old (told_in_effects effects) other new

-- and one that was closed so had waited before the turn: its answer was due, and memory for it was refused
abbrev pub OthersWaited : Type 0
OthersWaited = (terms : DispatcherTerms) (old new : DispatcherState) (connection : ℕ) (piece : List ℕ)
    (effects : List Effect)
    (count : ℕ)
    → IsTurn terms old connection piece effects count new → (other : ℕ) → other ≢ connection
    → (wire : Traffic) → old.open_wires.wires other ≡ Some wire → new.open_wires.wires other ≡ None
    → IsSome (old.hears other)

-- each that was listed as changed still is, and each that isn't has the same bytes
pub record ListsChanged (s t : DispatcherState) : Type 0 where
  pub still : (n : ℕ) → Contains s.changed n → Contains t.changed n
  pub others : (n : ℕ) → ¬ Contains t.changed n → t.open_wires.wires n ≡ s.open_wires.wires n

-- this holds through all effects, one after another
abbrev pub EffectsAreListed : Type 0
EffectsAreListed = (terms : DispatcherTerms) (effects : List Effect) (s t : DispatcherState)
    → DoesAll terms s effects t
    → ListsChanged s t
