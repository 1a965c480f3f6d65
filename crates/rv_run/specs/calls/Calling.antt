-- What a client asks over its link: its hellos, and then the calls that lines say.
use Rattle.std.specs.Prelude.{ℕ, ◌≡◌, ◌<◌, ◌≤◌, ◌+◌, ◌⊎◌, [], ◌∷◌, List, length}
use Rattle.std.specs.Prelude.{Option, Some, Result, Ok, Err}
use Rattle.rv_text.specs.Bodies.{IsCallBody, answer_text}
use Rattle.rv_text.specs.Limits.{FitsIdentifier, FitsKey}
use Rattle.rv_text.specs.declared.answer.Answer.{Answer}
use Rattle.rv_text.specs.declared.answer.Answer.TheVariants as answers
use Rattle.rv_text.specs.declared.answer.Reply.{Reply}
use Rattle.rv_text.specs.declared.call.Call.{Call}
use Rattle.rv_text.specs.declared.message.Key.{Key}
use Rattle.rv_client.specs.declared.calling.CallOutcome.{CallOutcome}
use Rattle.rv_client.specs.declared.calling.CallOutcome.TheVariants as called
use Rattle.rv_client.specs.declared.fault.LinkFault.{LinkFault}
use Rattle.rv_client.specs.Calls.{Calls}
use Rattle.rv_client.specs.Link.{Asks, Link, message_frame}
use Rattle.rv_text.specs.Members.{max_identifier}
use Rattle.rv_client.specs.Process.{Asking, PassesBy, Starting, Welcomes, first_key, hello_of}
use Rattle.rv_run.specs.declared.calls.client.Halt.{Halt}
use Rattle.rv_run.specs.declared.calls.client.Halt.TheVariants as halt
use Rattle.rv_run.specs.declared.calls.end_word.EndWord.{EndWord}
use Rattle.rv_run.specs.declared.calls.end_word.EndWord.TheVariants as word

-- the key after so many requests
abbrev pub key_behind : Key → ℕ → Key
key_behind key requests = record key { number = key.number + requests }

-- the client is idle, and this key and one for each of so many requests after it keep the limits
pub record HasNumbers (idle : Option Key) (requests : ℕ) : Type 0 where
  pub key : Key
  pub is_next : idle ≡ Some key
  pub fits : FitsKey key
  pub room : key.number + requests ≤ max_identifier

-- no call is read from the line
abbrev pub IsNoCall : List ℕ → Type 0
IsNoCall line = (call : Call) → ¬ IsCallBody line call

-- an answer to a hello welcomes the client, or refuses it with this word; for private clauses
abbrev pub AnswerEnds : Starting → Answer → Result (Option Key) EndWord → Type 0
AnswerEnds starting answer (Ok next) =
    (epoch : ℕ) × Welcomes starting answer epoch × (next ≡ Some (first_key starting epoch))
AnswerEnds starting answer (Err (word.Refused refusal)) = answer ≡ answers.Refused refusal
AnswerEnds starting answer (Err _) = ⊥

-- no call was read from the line: it says none, or memory was refused
abbrev pub HaltsReading : List ℕ → Halt → Type 0
HaltsReading line (halt.Word word.BadLine) = IsNoCall line
HaltsReading line (halt.Word _) = ⊥
HaltsReading line halt.NoMemory = Unit {0}

module _ {R W : Type 0} (remaining : R → Option (List ℕ)) (contents : W → Option (List ℕ)) where
  -- ---- hellos

  -- the client said hello once, and this came of it
  abbrev pub SaysHello : Starting → Link R W → Link R W → Result Answer LinkFault → Type 0
  SaysHello starting before after result =
      Asks remaining contents (message_frame (hello_of starting)) before after result

  -- it said hello once for each of these answers, which came in this order and say nothing to it
  abbrev pub HellosInVain : Starting → List Answer → Link R W → Link R W → Type 0
  HellosInVain starting [] before after = after ≡ before
  HellosInVain starting (answer ∷ answers) before after = (between : Link R W)
      × SaysHello starting before between (Ok answer) × PassesBy starting answer
      × HellosInVain starting answers between after

  -- after fewer hellos in vain than there may be tries, one more had this result
  pub record DecidingHello (starting : Starting) (tries : ℕ) (before after : Link R W)
      (result : Result Answer LinkFault) : Type 0 where
    pub answers : List Answer
    pub fewer : length answers < tries
    pub between : Link R W
    pub in_vain : HellosInVain starting answers before between
    pub last : SaysHello starting between after result

  -- the client is welcome in this epoch
  abbrev pub IsWelcomed : Starting → ℕ → ℕ → Link R W → Link R W → Type 0
  IsWelcomed starting tries epoch before after = DecidingHello starting tries before after
      (Ok (answers.Welcome epoch starting.client starting.incarnation starting.version))

  -- as many hellos as there may be tries were in vain
  pub record AllInVain (starting : Starting) (tries : ℕ) (before after : Link R W) : Type 0 where
    pub answers : List Answer
    pub each : length answers ≡ tries
    pub in_vain : HellosInVain starting answers before after

  -- a hello met a fault of the link
  pub record MeetsFault (starting : Starting) (tries : ℕ) (before after : Link R W) : Type 0 where
    pub fault : LinkFault
    pub met : DecidingHello starting tries before after (Err fault)

  -- the client isn't welcome, and this word says so
  abbrev pub IsTurnedAway : Starting → ℕ → EndWord → Link R W → Link R W → Type 0
  IsTurnedAway starting tries (word.Refused refusal) before after =
      DecidingHello starting tries before after (Ok (answers.Refused refusal))
  IsTurnedAway starting tries word.NotWelcome before after =
      MeetsFault starting tries before after ⊎ AllInVain starting tries before after
  IsTurnedAway starting tries _ before after = ⊥

  -- ---- calls

  -- the call that the line says was made under this key, and this came of it
  pub record MakesCall (tries : ℕ) (key : Key) (line : List ℕ) (before after : Link R W)
      (outcome : CallOutcome) : Type 0 where
    pub call : Call
    pub said : IsCallBody line call
    pub made : Calls remaining contents (record { key = key; call = call }) tries before after outcome

  -- it was settled, and the text is that of its reply's answer
  pub record SettlesLine (tries : ℕ) (key : Key) (line text : List ℕ) (before after : Link R W)
      : Type 0 where
    pub next : Option Key
    pub reply : Reply
    pub settled : MakesCall tries key line before after (called.Settled next reply)
    pub text_is : text ≡ answer_text (answers.Replied key reply)

  -- the lines' calls were settled one after the other with these texts, the first under this key, and each
  -- later one under the next number
  abbrev pub SettlesLines : ℕ → Key → List (List ℕ) → List (List ℕ) → Link R W → Link R W → Type 0
  SettlesLines tries key [] [] before after = after ≡ before
  SettlesLines tries key (line ∷ lines) (text ∷ texts) before after = (between : Link R W)
      × SettlesLine tries key line text before between
      × SettlesLines tries (key_behind key 1) lines texts between after
  SettlesLines tries key _ _ before after = ⊥

  -- the call was not settled: nothing final was heard of it
  pub record LeavesUnsettled (tries : ℕ) (key : Key) (line : List ℕ) (before after : Link R W)
      : Type 0 where
    pub asking : Asking
    pub fault : Option LinkFault
    pub made : MakesCall tries key line before after (called.Unsettled asking fault)

  -- this word says why the line, whose call would have this key, is not settled
  abbrev pub StopsWithWord : ℕ → Key → List ℕ → EndWord → Link R W → Link R W → Type 0
  StopsWithWord tries key line word.BadLine before after = IsNoCall line × (after ≡ before)
  StopsWithWord tries key line (word.Unsettled number) before after =
      (number ≡ key.number) × LeavesUnsettled tries key line before after
  StopsWithWord tries key line (word.EpochEnded current) before after =
      MakesCall tries key line before after (called.EpochEnded key current)
  StopsWithWord tries key line (word.Replaced current) before after =
      MakesCall tries key line before after (called.Replaced key current)
  StopsWithWord tries key line _ before after = ⊥

  -- ---- for private clauses

  -- one hello got an answer that says nothing to the client
  pub record IsHelloInVain (starting : Starting) (before after : Link R W) : Type 0 where
    pub answer : Answer
    pub asked : SaysHello starting before after (Ok answer)
    pub passed_by : PassesBy starting answer

  -- one hello welcomed the client, or ended with this word
  abbrev pub HelloEnds : Starting → Link R W → Link R W → Result (Option Key) EndWord → Type 0
  HelloEnds starting before after (Ok next) = (epoch : ℕ)
      × SaysHello starting before after
      (Ok (answers.Welcome epoch starting.client starting.incarnation starting.version))
      × (next ≡ Some (first_key starting epoch))
  HelloEnds starting before after (Err (word.Refused refusal)) =
      SaysHello starting before after (Ok (answers.Refused refusal))
  HelloEnds starting before after (Err word.NotWelcome) =
      (fault : LinkFault) × SaysHello starting before after (Err fault)
  HelloEnds starting before after (Err _) = ⊥

  -- all hellos welcomed the client, or ended with this word
  abbrev pub WelcomesOrNot : Starting → ℕ → Link R W → Link R W → Result (Option Key) EndWord → Type 0
  WelcomesOrNot starting tries before after (Ok next) = (epoch : ℕ)
      × IsWelcomed starting tries epoch before after × (next ≡ Some (first_key starting epoch))
      × FitsIdentifier epoch
  WelcomesOrNot starting tries before after (Err word) = IsTurnedAway starting tries word before after

  -- the call of a line has no text: because of a word; or because memory was refused, before it was made or
  -- once it was settled
  abbrev pub HaltsAt : ℕ → Key → List ℕ → Halt → Link R W → Link R W → Type 0
  HaltsAt tries key line (halt.Word word) before after = StopsWithWord tries key line word before after
  HaltsAt tries key line halt.NoMemory before after =
      (after ≡ before) ⊎ ((text : List ℕ) × SettlesLine tries key line text before after)
