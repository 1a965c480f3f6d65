-- For private clauses: a line of a play by its word and its fields.
use Rattle.std.specs.Prelude.{ℕ, List, codes, ◌≡◌}
use Rattle.rv_world.specs.declared.parts.event.Event.{Event}
use Rattle.rv_world.specs.declared.parts.event.Event.TheVariants as event
use Rattle.rv_run.specs.play.Reading.{SayRest, word_of}

-- the word and the fields say the event
abbrev pub SaysParts : List ℕ → List ℕ → Event → Type 0
SaysParts word fields e = (word ≡ word_of e) × SayRest fields e

-- they say no event but a begin
abbrev pub SaysAtMostBegin : List ℕ → List ℕ → Type 0
SaysAtMostBegin word fields = (e : Event) → ¬ (word_of e ≡ codes "begin") → ¬ SaysParts word fields e

-- they say no event whose fields are one identifier
pub record SaysNoneOfOne (word fields : List ℕ) : Type 0 where
  pub no_resend : (client : ℕ) → ¬ SaysParts word fields (event.Resend client)
  pub no_cancel : (client : ℕ) → ¬ SaysParts word fields (event.CancelSent client)
  pub no_crash : (client : ℕ) → ¬ SaysParts word fields (event.Crash client)
  pub no_epoch : (epoch : ℕ) → ¬ SaysParts word fields (event.NewEpoch epoch)
