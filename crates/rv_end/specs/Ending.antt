-- The hello that ends a request, and what came of it.
use Rattle.std.specs.Prelude.{ℕ, ◌≡◌, ◌+◌, ◌⊎◌, Bool, Err, false, if◌then◌else◌, List, max, nat_le, None, Ok}
use Rattle.std.specs.Prelude.{Option, Result, Some, true}
use Rattle.rv_text.specs.Members.{max_identifier}
use Rattle.rv_text.specs.declared.answer.Answer.{Answer}
use Rattle.rv_text.specs.declared.answer.Answer.TheVariants as answers
use Rattle.rv_text.specs.declared.answer.Refusal.{Refusal}
use Rattle.rv_text.specs.declared.answer.Refusal.TheVariants as refusals
use Rattle.rv_text.specs.declared.version.Version.TheVariants.{Two}
use Rattle.rv_client.specs.declared.fault.LinkFault.{LinkFault}
use Rattle.rv_client.specs.declared.fault.LinkFault.TheVariants as links
use Rattle.rv_client.specs.Link.{Asks, Link, message_frame}
use Rattle.rv_client.specs.Process.{PassesBy, Starting, Welcomes, hello_of}
use Rattle.rv_run.specs.declared.fault.RunFault.{RunFault}
use Rattle.rv_run.specs.declared.fault.RunFault.TheVariants as runs
use Rattle.rv_status.specs.declared.status.WaitingRow.{WaitingRow}
use Rattle.rv_end.specs.declared.ending.Ending.{Ending}
use Rattle.rv_end.specs.declared.ending.Ending.TheVariants.{Ended, Kept, NoAnswer, Refused, Replaced}

-- the request has ended
abbrev pub is_done : Ending → Bool
is_done Ended = true
is_done (Replaced current) = true
is_done (Refused refusal) = false
is_done Kept = false
is_done NoAnswer = false

-- the incarnation of a hello that ends requests of this one, at this many microseconds since 1970; none if no
-- incarnation is so great
abbrev pub greater_incarnation : ℕ → ℕ → Option ℕ
greater_incarnation micros incarnation =
    let greater = max micros (incarnation + 1) in
    if nat_le greater max_identifier then Some greater else None

-- the client of such a hello
abbrev pub starting : ℕ → ℕ → Starting
starting client incarnation = record { client = client; incarnation = incarnation; version = Two }

-- a refusal for an incarnation that is greater still says that the request has ended
abbrev pub ending_of : Refusal → Ending
ending_of (refusals.OldIncarnation current) = Replaced current
ending_of refusal = Refused refusal

-- the answer says that this came of the request
abbrev pub AnswerGives : Starting → Answer → Ending → Type 0
AnswerGives starting answer Ended = (epoch : ℕ) × Welcomes starting answer epoch
AnswerGives starting answer NoAnswer = PassesBy starting answer
AnswerGives starting answer ending =
    (refusal : Refusal) × (answer ≡ answers.Refused refusal) × (ending ≡ ending_of refusal)

module _ {R W : Type 0} (remaining : R → Option (List ℕ)) (contents : W → Option (List ℕ)) where
  -- the client said hello once, and this came of it
  abbrev pub GreetsOnce : Starting → Link R W → Link R W → Result Answer LinkFault → Type 0
  GreetsOnce starting before after result =
      Asks remaining contents (message_frame (hello_of starting)) before after result

  -- it heard an answer that says this
  pub record HearsAnswer (starting : Starting) (before after : Link R W) (ending : Ending) : Type 0 where
    pub answer : Answer
    pub said : GreetsOnce starting before after (Ok answer)
    pub gives : AnswerGives starting answer ending

  -- it heard an answer that says this, or the link gave none
  abbrev pub HelloGives : Starting → Link R W → Link R W → Ending → Type 0
  HelloGives starting before after NoAnswer = HearsAnswer starting before after NoAnswer
      ⊎ ((fault : LinkFault) × GreetsOnce starting before after (Err fault))
  HelloGives starting before after ending = HearsAnswer starting before after ending

  -- memory was refused for its hello
  abbrev pub HelloLacksMemory : Starting → Link R W → Link R W → RunFault → Type 0
  HelloLacksMemory starting before after fault = (fault ≡ runs.NoMemory)
      × GreetsOnce starting before after (Err links.NoMemory)

  -- the hello is that of the row's client, in the incarnation that ends the row's, and this came of it
  pub record IsGreeted (row : WaitingRow) (micros : ℕ) (Gives : Starting → Type 0) : Type 0 where
    pub incarnation : ℕ
    pub greater : greater_incarnation micros row.incarnation ≡ Some incarnation
    pub gives : Gives (starting row.client incarnation)

  -- this came of the row's request; if no incarnation is greater, nothing was said
  abbrev pub EndsRequest : WaitingRow → ℕ → Link R W → Link R W → Ending → Type 0
  EndsRequest row micros before after Kept =
      (greater_incarnation micros row.incarnation ≡ None) × (after ≡ before)
  EndsRequest row micros before after ending =
      IsGreeted row micros (λ starting. HelloGives starting before after ending)

  -- memory was refused for the hello of a row
  abbrev pub EndLacksMemory : WaitingRow → ℕ → Link R W → Link R W → RunFault → Type 0
  EndLacksMemory row micros before after fault =
      IsGreeted row micros (λ starting. HelloLacksMemory starting before after fault)
