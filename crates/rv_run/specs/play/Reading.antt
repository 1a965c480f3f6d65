-- Which line of a play says which event.
use Rattle.std.specs.Prelude.{ℕ, List, codes, ◌∷◌, ◌++◌, ◌≡◌}
use Rattle.rv_text.specs.declared.version.Version.{Version}
use Rattle.rv_text.specs.declared.version.Version.TheVariants.{One, Two}
use Rattle.rv_text.specs.Bodies.{IsCallBody}
use Rattle.rv_text.specs.Number.{WritesIdentifier, WritesNumber}
use Rattle.rv_world.specs.declared.parts.event.Event.{Event}
use Rattle.rv_world.specs.declared.parts.event.Event.TheVariants as event

-- the word that the line of an event begins with
abbrev pub word_of : Event → List ℕ
word_of (event.Start client incarnation version) = codes "start"
word_of (event.Begin client call) = codes "begin"
word_of (event.Resend client) = codes "resend"
word_of (event.CancelSent client) = codes "cancel"
word_of (event.Crash client) = codes "crash"
word_of (event.ToServer packet moment) = codes "server"
word_of (event.ToClient packet) = codes "client"
word_of (event.NewEpoch epoch) = codes "epoch"

-- the bytes are two fields, with one space (32) between them, and these say it
pub record SayTwo (First Second : List ℕ → Type 0) (fields : List ℕ) : Type 0 where
  pub first : List ℕ
  pub second : List ℕ
  pub parts : fields ≡ first ++ 32 ∷ second
  pub says_first : First first
  pub says_second : Second second

-- an incarnation alone is one of version 1; for version 2, one space and that number follow it
abbrev pub SaysSession : List ℕ → ℕ → Version → Type 0
SaysSession fields incarnation One = WritesIdentifier fields incarnation
SaysSession fields incarnation Two =
    SayTwo (λ f. WritesIdentifier f incarnation) (λ f. f ≡ codes "2") fields

-- the fields after the word say the event; a call is said by any text of it
abbrev pub SayRest : List ℕ → Event → Type 0
SayRest fields (event.Start client incarnation version) =
    SayTwo (λ f. WritesIdentifier f client) (λ f. SaysSession f incarnation version) fields
SayRest fields (event.Begin client call) =
    SayTwo (λ f. WritesIdentifier f client) (λ f. IsCallBody f call) fields
SayRest fields (event.Resend client) = WritesIdentifier fields client
SayRest fields (event.CancelSent client) = WritesIdentifier fields client
SayRest fields (event.Crash client) = WritesIdentifier fields client
SayRest fields (event.ToServer packet moment) =
    SayTwo (λ f. WritesNumber f packet) (λ f. WritesNumber f moment) fields
SayRest fields (event.ToClient packet) = WritesNumber fields packet
SayRest fields (event.NewEpoch epoch) = WritesIdentifier fields epoch

-- the line is the event's word, one space (32), and the fields that say the rest of it
pub record SaysEvent (line : List ℕ) (e : Event) : Type 0 where
  pub fields : List ℕ
  pub parts : line ≡ word_of e ++ 32 ∷ fields
  pub rest : SayRest fields e

-- the line says no event
abbrev pub SaysNoEvent : List ℕ → Type 0
SaysNoEvent line = (e : Event) → ¬ SaysEvent line e
