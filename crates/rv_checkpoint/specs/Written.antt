-- The lines that are written for a state.
use Rattle.std.specs.Prelude.{◌≡◌, ◌∷◌, ◌++◌, ℕ, List, Option, Some, None, codes, length}
use Rattle.std.specs.Fmt.{decimal}
use Rattle.rv_account.specs.state.Standing.{LiesOpen, StandsFor}
use Rattle.rv_checkpoint.specs.declared.head.StateHead.{StateHead}
use Rattle.rv_checkpoint.specs.declared.line.StateLine.{StateLine}
use Rattle.rv_checkpoint.specs.declared.line.StateLine.TheVariants.{Open, Client, End}
use Rattle.rv_session.specs.declared.client.ClientState.{ClientState}
use Rattle.rv_session.specs.declared.client.LastRequest.{LastRequest}
use Rattle.rv_session.specs.declared.client.LastRequest.TheVariants as last
use Rattle.rv_session.specs.declared.open.OpenPlace.{OpenPlace}
use Rattle.rv_session.specs.declared.open.Waiter.{Waiter}
use Rattle.rv_account.specs.state.Agreement.{last_key_of}
use Rattle.rv_text.specs.Bodies.{answer_text, call_text, message_text}
use Rattle.rv_text.specs.Versions.{number_of_version}
use Rattle.rv_text.specs.declared.answer.Answer.TheVariants as answer
use Rattle.rv_text.specs.declared.answer.Reply.{Reply}
use Rattle.rv_text.specs.declared.call.Call.{Call}
use Rattle.rv_text.specs.declared.call.Call.TheVariants as call
use Rattle.rv_text.specs.declared.call.Side.TheVariants.{Gives}
use Rattle.rv_text.specs.declared.message.Key.{Key}
use Rattle.rv_text.specs.declared.message.Message.TheVariants as message
use Rattle.rv_text.specs.declared.version.Version.{Version}

-- a number, a space (32) and a text
abbrev pub after_number : ℕ → List ℕ → List ℕ
after_number n text = decimal n ++ 32 ∷ text

-- a version's number, a space and a text
abbrev pub after_version : Version → List ℕ → List ℕ
after_version version text = after_number (number_of_version version) text

-- ---- the first line and the last

abbrev pub head_text_of : StateHead → List ℕ
head_text_of head = codes "state 1 "
    ++ after_number head.epoch (after_number head.moment (decimal head.length))

abbrev pub end_text : ℕ → ℕ → List ℕ
end_text opens clients = codes "end " ++ after_number opens (decimal clients)

-- ---- an open place

abbrev pub lying_text : ℕ → ℕ → List ℕ → List ℕ
lying_text place queue item = codes "lies " ++ after_number place (call_text (call.Put queue item))

abbrev pub waiting_text : ℕ → Waiter → Call → List ℕ
waiting_text place waiter call = codes "waits "
    ++ after_number place (after_number waiter.since (message_text (message.Request waiter.key call)))

-- a request with some call waits there, or an item of a put lies there
abbrev pub StandsAsked : OpenPlace → Option Waiter → Type 0
StandsAsked there None = LiesOpen there
StandsAsked there (Some waiter) = (call : Call) × StandsFor there waiter.since call

abbrev pub StandsThere : OpenPlace → Type 0
StandsThere there = StandsAsked there there.waiter

-- it is the line of the place's item, or of the request that waits there
abbrev pub IsTextSince : OpenPlace → Option Waiter → List ℕ → Type 0
IsTextSince there None text =
    (queue : ℕ) × (item : List ℕ) × (there.side ≡ Gives queue) × (there.item ≡ Some item)
    × (text ≡ lying_text there.place queue item)
IsTextSince there (Some waiter) text =
    (call : Call) × StandsFor there waiter.since call × (text ≡ waiting_text there.place waiter call)

abbrev pub IsOpenText : OpenPlace → List ℕ → Type 0
IsOpenText there text = IsTextSince there there.waiter text

-- ---- a client's session

abbrev pub fresh_text : ℕ → ℕ → Version → List ℕ
fresh_text client incarnation version =
    codes "fresh " ++ message_text (message.Hello client incarnation version)

abbrev pub asking_text : Version → ℕ → Key → Call → List ℕ
asking_text version place key call = codes "asks "
    ++ after_version version (after_number place (message_text (message.Request key call)))

abbrev pub replied_text : Version → Key → Call → Reply → List ℕ
replied_text version key call reply = codes "replied "
    ++ after_version version (after_number (length (call_text call))
    (call_text call ++ answer_text (answer.Replied key reply)))

abbrev pub unseen_text : Version → Key → List ℕ
unseen_text version key = codes "unseen " ++ after_version version (message_text (message.Cancel key))

-- by what became of the last request, which has this key
abbrev pub session_text : ℕ → ℕ → Version → Key → LastRequest → List ℕ
session_text client incarnation version key last.Fresh = fresh_text client incarnation version
session_text client incarnation version key (last.Waits place call) = asking_text version place key call
session_text client incarnation version key (last.RepliedTo call reply) = replied_text version key call reply
session_text client incarnation version key last.CancelledUnseen = unseen_text version key

abbrev pub client_text : ℕ → ℕ → ClientState → List ℕ
client_text epoch client session = session_text client session.incarnation session.version
    (last_key_of epoch client session) session.request

-- ---- what a line says

-- it is the line of a place, of a client's session, or of the end
abbrev pub IsLineFor : ℕ → StateLine → List ℕ → Type 0
IsLineFor epoch (Open there) text = IsOpenText there text
IsLineFor epoch (Client client session) text = text ≡ client_text epoch client session
IsLineFor epoch (End opens clients) text = text ≡ end_text opens clients
