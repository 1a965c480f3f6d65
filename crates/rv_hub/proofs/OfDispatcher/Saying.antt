-- What is said of a step is answered, or lets its connection wait.
use Rattle.std.proofs.Common.{inl, inr, ◌≡◌, ℕ, List, subst}
use Rattle.rv_text.specs.declared.message.Key.{Key}
use Rattle.rv_text.specs.declared.answer.Answer.{Answer}
use Rattle.rv_text.specs.declared.answer.Answer.TheVariants as answer
use Rattle.rv_text.specs.declared.answer.Refusal.{Refusal}
use Rattle.rv_text.specs.declared.answer.Reply.{Reply}
use Rattle.rv_text.specs.declared.version.Version.{Version}
use Rattle.rv_text.specs.Bodies.{answer_text}
use Rattle.rv_machine.specs.Machines.{state_in}
use Rattle.rv_hub.specs.declared.dispatcher.Dispatcher.{Dispatcher}
use Rattle.rv_hub.specs.dispatcher.Effects.{AnswersNow, rests_on}
use Rattle.rv_hub.specs.dispatcher.Fields.{dispatcher_state}
use Rattle.rv_hub.specs.dispatcher.Going.{AnswersIt, LacksIt, SaysIt, SaysText, WaitsIt}

-- answered by its text
pub text_said : (old : Dispatcher) (connection : ℕ) (a : Answer) (text : List ℕ) (new : Dispatcher)
    → text ≡ answer_text a
    → AnswersIt old connection (rests_on a (state_in old.machine).length) text new
    → SaysText old connection a new
text_said old connection a text new is answers = record {
  did = λ body asked. elim (answers.did body asked) [
    | inl now ↦ inl (subst (λ t. AnswersNow (dispatcher_state old) connection body
        (rests_on a (state_in old.machine).length) t (dispatcher_state new)) is now)
    | inr closed ↦ inr (inr closed)
  ];
  takes = answers.takes;
}

pub text_lacked : (old : Dispatcher) (connection : ℕ) (a : Answer) (new : Dispatcher)
    → LacksIt old connection new
    → SaysText old connection a new
text_lacked old connection a new lacks = record {
  did = λ body asked. elim (lacks.did body asked) [
    | inl now ↦ inr (inl now)
    | inr closed ↦ inr (inr closed)
  ];
  takes = lacks.takes;
}

-- an answer that isn't to wait
pub replied_so : (old : Dispatcher) (connection : ℕ) (key : Key) (reply : Reply) (new : Dispatcher)
    → SaysText old connection (answer.Replied key reply) new
    → SaysIt old connection (answer.Replied key reply) new
replied_so old connection key reply new said = record { did = said.did; takes = said.takes }

pub welcomed_so : (old : Dispatcher) (connection epoch client incarnation : ℕ) (version : Version)
    (new : Dispatcher)
    → SaysText old connection (answer.Welcome epoch client incarnation version) new
    → SaysIt old connection (answer.Welcome epoch client incarnation version) new
welcomed_so old connection epoch client incarnation version new said = record {
  did = said.did;
  takes =
      said.takes;
}

pub refused_so : (old : Dispatcher) (connection : ℕ) (refusal : Refusal) (new : Dispatcher)
    → SaysText old connection (answer.Refused refusal) new
    → SaysIt old connection (answer.Refused refusal) new
refused_so old connection refusal new said = record { did = said.did; takes = said.takes }

pub waits_so : (old : Dispatcher) (connection : ℕ) (key : Key) (new : Dispatcher)
    → WaitsIt old connection key new
    → SaysIt old connection (answer.Waiting key) new
waits_so old connection key new waits = record {
  did = λ body asked. elim (waits.did body asked) [ inl now ↦ inl now | inr closed ↦ inr (inr closed) ];
  takes = waits.takes;
}

pub lacks_so : (old : Dispatcher) (connection : ℕ) (a : Answer) (new : Dispatcher)
    → LacksIt old connection new
    → SaysIt old connection a new
lacks_so old connection a new lacks = record {
  did = λ body asked. elim (lacks.did body asked) [
    | inl now ↦ inr (inl now)
    | inr closed ↦ inr (inr closed)
  ];
  takes = lacks.takes;
}
