-- What the lines of a checkpoint say.
use Rattle.std.specs.Prelude.{◌≡◌, ◌++◌, ℕ, List, Some, None, codes}
use Rattle.rv_account.specs.state.Standing.{StandsFor}
use Rattle.rv_checkpoint.specs.Fields.{CutsNumber, CutsTexts, CutsVersion, IsCancelOf}
use Rattle.rv_checkpoint.specs.Fields.{IsBodyOfReply, IsRequestOf, max_field}
use Rattle.rv_checkpoint.specs.Kinds.{word_before}
use Rattle.rv_checkpoint.specs.declared.head.StateHead.{StateHead}
use Rattle.rv_checkpoint.specs.declared.kind.LineKind.{LineKind}
use Rattle.rv_checkpoint.specs.declared.kind.LineKind.TheVariants.{Lies, Waits, Fresh, Asks, Replied, Unseen}
use Rattle.rv_checkpoint.specs.declared.kind.LineKind.TheVariants as kind
use Rattle.rv_checkpoint.specs.declared.line.StateLine.{StateLine}
use Rattle.rv_checkpoint.specs.declared.line.StateLine.TheVariants.{Open, Client, End}
use Rattle.rv_session.specs.declared.client.ClientState.{ClientState}
use Rattle.rv_session.specs.declared.client.LastRequest.{LastRequest}
use Rattle.rv_session.specs.declared.client.LastRequest.TheVariants as last
use Rattle.rv_session.specs.declared.open.OpenPlace.{OpenPlace}
use Rattle.rv_text.specs.Bodies.{IsCallBody, IsMessageBody}
use Rattle.rv_text.specs.Number.{WritesUpTo}
use Rattle.rv_text.specs.declared.answer.Reply.{Reply}
use Rattle.rv_text.specs.declared.call.Call.{Call}
use Rattle.rv_text.specs.declared.call.Call.TheVariants as call
use Rattle.rv_text.specs.declared.call.Side.TheVariants.{Gives}
use Rattle.rv_text.specs.declared.message.Key.{Key}
use Rattle.rv_text.specs.declared.message.Message.{Message}
use Rattle.rv_text.specs.declared.message.Message.TheVariants as message
use Rattle.rv_text.specs.declared.version.Version.{Version}

-- ---- the first line

-- the word, the version of the format, the epoch, the last moment and the number of entries
pub record SaysHead (line : List ℕ) (head : StateHead) : Type 0 where
  pub fields : List ℕ
  pub after : List ℕ
  pub field : List ℕ
  pub parts : line ≡ codes "state 1 " ++ fields
  pub epoch : CutsNumber fields head.epoch after
  pub moment : CutsNumber after head.moment field
  pub length : WritesUpTo max_field field head.length

-- ---- an open place

-- an item lies there: the place, and a text of the put that left it
pub record SaysLying (fields : List ℕ) (there : OpenPlace) : Type 0 where
  pub body : List ℕ
  pub place : CutsNumber fields there.place body
  pub queue : ℕ
  pub item : List ℕ
  pub says : IsCallBody body (call.Put queue item)
  pub side : there.side ≡ Gives queue
  pub has : there.item ≡ Some item
  pub unlimited : there.limit ≡ None
  pub alone : there.waiter ≡ None

-- a request waits there: the place, the moment of its arrival, and a body of it
pub record SaysWaiting (epoch : ℕ) (fields : List ℕ) (there : OpenPlace) : Type 0 where
  pub after : List ℕ
  pub body : List ℕ
  pub place : CutsNumber fields there.place after
  pub since : ℕ
  pub arrived : CutsNumber after since body
  pub key : Key
  pub call : Call
  pub says : IsRequestOf epoch body key call
  pub stands : StandsFor there since call
  pub waiter : there.waiter ≡ Some (record { key = key; since = since })

-- ---- a client's session

-- a session of this version, of which this became of the request of this key
abbrev pub session_by : Key → Version → LastRequest → ClientState
session_by key version request =
    record { incarnation = key.incarnation; version = version; last = key.number; request = request }

-- the hello begins the session, in which nothing was asked
pub record BeginsFresh (hello : Message) (client : ℕ) (session : ClientState) : Type 0 where
  pub is : hello ≡ message.Hello client session.incarnation session.version
  pub unasked : session.last ≡ 0
  pub request : session.request ≡ last.Fresh

-- nothing was asked in it: a body of its hello
pub record SaysFresh (body : List ℕ) (client : ℕ) (session : ClientState) : Type 0 where
  pub hello : Message
  pub says : IsMessageBody body hello
  pub begins : BeginsFresh hello client session

-- its last request waits: the version, the place, and a body of the request
pub record SaysAsking (epoch : ℕ) (fields : List ℕ) (client : ℕ) (session : ClientState) : Type 0 where
  pub after : List ℕ
  pub body : List ℕ
  pub version : CutsVersion fields session.version after
  pub place : ℕ
  pub at_place : CutsNumber after place body
  pub key : Key
  pub call : Call
  pub says : IsRequestOf epoch body key call
  pub client_is : client ≡ key.client
  pub session_is : session ≡ session_by key session.version (last.Waits place call)

-- its last request has its reply: the version, the length of a text of its call, that text, and a body of
-- the reply
pub record SaysReplied (epoch : ℕ) (fields : List ℕ) (client : ℕ) (session : ClientState) : Type 0 where
  pub after : List ℕ
  pub text : List ℕ
  pub body : List ℕ
  pub version : CutsVersion fields session.version after
  pub texts : CutsTexts after text body
  pub key : Key
  pub call : Call
  pub reply : Reply
  pub asked : IsCallBody text call
  pub says : IsBodyOfReply epoch body key reply
  pub client_is : client ≡ key.client
  pub session_is : session ≡ session_by key session.version (last.RepliedTo call reply)

-- its last request was cancelled before it came: the version, and a body of the cancel
pub record SaysUnseen (epoch : ℕ) (fields : List ℕ) (client : ℕ) (session : ClientState) : Type 0 where
  pub body : List ℕ
  pub version : CutsVersion fields session.version body
  pub key : Key
  pub says : IsCancelOf epoch body key
  pub client_is : client ≡ key.client
  pub session_is : session ≡ session_by key session.version last.CancelledUnseen

-- ---- the last line

-- how many open places and clients were said
pub record SaysTotals (fields : List ℕ) (opens clients : ℕ) : Type 0 where
  pub field : List ℕ
  pub places : CutsNumber fields opens field
  pub known : WritesUpTo max_field field clients

-- ---- lines after the first

-- the fields of a line of this kind say this
abbrev pub SaysFields : ℕ → LineKind → List ℕ → StateLine → Type 0
SaysFields epoch Lies fields (Open there) = SaysLying fields there
SaysFields epoch Waits fields (Open there) = SaysWaiting epoch fields there
SaysFields epoch Fresh fields (Client client session) = SaysFresh fields client session
SaysFields epoch Asks fields (Client client session) = SaysAsking epoch fields client session
SaysFields epoch Replied fields (Client client session) = SaysReplied epoch fields client session
SaysFields epoch Unseen fields (Client client session) = SaysUnseen epoch fields client session
SaysFields epoch kind.End fields (End opens clients) = SaysTotals fields opens clients
SaysFields epoch _ fields _ = ⊥

-- a line after the first, in a checkpoint of this epoch, says this: its kind's word, and fields
pub record SaysOneLine (epoch : ℕ) (line : List ℕ) (said : StateLine) : Type 0 where
  pub kind : LineKind
  pub fields : List ℕ
  pub parts : line ≡ word_before kind ++ fields
  pub says : SaysFields epoch kind fields said
