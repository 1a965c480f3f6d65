-- One call over a link: its hello, its request, and what each end of it tells.
use Rattle.std.specs.Prelude.{IfSome, List, ℕ, ◌≡◌, Option, Result, None, Some, Ok, Err}
use Rattle.rv_text.specs.declared.answer.Answer.{Answer}
use Rattle.rv_text.specs.declared.answer.Answer.TheVariants as answers
use Rattle.rv_text.specs.declared.answer.Refusal.{Refusal}
use Rattle.rv_text.specs.declared.call.Call.{Call}
use Rattle.rv_text.specs.declared.message.Key.{Key}
use Rattle.rv_text.specs.Limits.{FitsIdentifier}
use Rattle.rv_client.specs.Link.{Asks, Link, message_frame}
use Rattle.rv_client.specs.Process.{Asking, EndsEpoch, PassesBy, Replaces, SaysNothingFinal, Settles}
use Rattle.rv_client.specs.Process.{Starting}
use Rattle.rv_client.specs.Process.{Welcomes, first_key, hello_of, request_of}
use Rattle.rv_client.specs.declared.fault.LinkFault.{LinkFault}
use Rattle.rv_commands.specs.declared.asking.CallEnd.{CallEnd}
use Rattle.rv_commands.specs.declared.asking.CallEnd.TheVariants as ends

-- the refusal that an answer is
abbrev pub refusal_in : Answer → Option Refusal
refusal_in (answers.Refused refusal) = Some refusal
refusal_in _ = None

-- the key of a call's request after this end: the one that was asked, or else the earlier one
abbrev pub key_asked : CallEnd → Option Key → Option Key
key_asked (ends.Unwelcome refusal) earlier = earlier
key_asked (ends.Unheard fault) earlier = earlier
key_asked (ends.Replied key reply) earlier = Some key
key_asked (ends.Refused key refusal) earlier = Some key
key_asked (ends.Unsettled key fault) earlier = Some key
key_asked (ends.EpochEnded key current) earlier = Some key
key_asked (ends.Replaced key current) earlier = Some key
key_asked (ends.Moved key epoch) earlier = Some key

-- what an answer to a request says of it
abbrev pub TellsOfRequest : Asking → Answer → CallEnd → Type 0
TellsOfRequest asking answer (ends.Replied key reply) = (key ≡ asking.key) × Settles asking.key answer reply
TellsOfRequest asking answer (ends.Refused key refusal) =
    (key ≡ asking.key) × (answer ≡ answers.Refused refusal) × SaysNothingFinal asking.key answer
TellsOfRequest asking answer (ends.Unsettled key None) =
    (key ≡ asking.key) × (refusal_in answer ≡ None) × SaysNothingFinal asking.key answer
TellsOfRequest asking answer (ends.EpochEnded key current) = (key ≡ asking.key) × EndsEpoch asking.key answer
    current
TellsOfRequest asking answer (ends.Replaced key current) = (key ≡ asking.key) × Replaces asking.key answer
    current
TellsOfRequest asking answer _ = ⊥

module _ {R W : Type 0} (remaining : R → Option (List ℕ)) (contents : W → Option (List ℕ)) where
  -- the hello went out once, and this came of it
  abbrev pub SendsHello : Starting → Link R W → Link R W → Result Answer LinkFault → Type 0
  SendsHello starting before after result =
      Asks remaining contents (message_frame (hello_of starting)) before after result

  -- the request went out once, and this came of it
  abbrev pub AsksFor : Asking → Link R W → Link R W → Result Answer LinkFault → Type 0
  AsksFor asking before after result =
      Asks remaining contents (message_frame (request_of asking)) before after result

  -- the hello welcomed the client, whose next key is its first one in the welcome's epoch
  pub record GetsWelcome (starting : Starting) (before after : Link R W) (next : Option Key) : Type 0 where
    pub epoch : ℕ
    pub fits : FitsIdentifier epoch
    pub answer : Answer
    pub says : SendsHello starting before after (Ok answer)
    pub welcomes : Welcomes starting answer epoch
    pub first : next ≡ Some (first_key starting epoch)

  -- the hello didn't: it was refused, it met a fault of the link, or its answer says nothing to the client
  abbrev pub EndsHello : Starting → Link R W → Link R W → CallEnd → Type 0
  EndsHello starting before after (ends.Unwelcome refusal) =
      SendsHello starting before after (Ok (answers.Refused refusal))
  EndsHello starting before after (ends.Unheard (Some fault)) = SendsHello starting before after (Err fault)
  EndsHello starting before after (ends.Unheard None) =
      (answer : Answer) × SendsHello starting before after (Ok answer) × PassesBy starting answer
  EndsHello starting before after _ = ⊥

  -- the request met a fault of the link, or its answer says this of it
  abbrev pub EndsAsking : Asking → Link R W → Link R W → CallEnd → Type 0
  EndsAsking asking before after (ends.Unsettled key (Some fault)) =
      (key ≡ asking.key) × AsksFor asking before after (Err fault)
  EndsAsking asking before after end =
      (answer : Answer) × AsksFor asking before after (Ok answer) × TellsOfRequest asking answer end

  -- once the client was welcome, its first request in that epoch, which is the earlier one if there was one,
  -- ended so
  pub record EndsFirstRequest (starting : Starting) (call : Call) (earlier : Option Key) (before after :
      Link R W)
      (end : CallEnd) : Type 0 where
    pub epoch : ℕ
    pub between : Link R W
    pub welcomed : GetsWelcome starting before between (Some (first_key starting epoch))
    pub same : IfSome earlier (λ key. key ≡ first_key starting epoch)
    pub ended : EndsAsking (record { key = first_key starting epoch; call = call }) between after end

  -- the client was welcome in this epoch, in which its first request isn't the earlier one, and asked nothing
  pub record HasMoved (starting : Starting) (earlier : Option Key) (key : Key) (epoch : ℕ)
      (before after : Link R W) : Type 0 where
    pub welcomed : GetsWelcome starting before after (Some (first_key starting epoch))
    pub was : earlier ≡ Some key
    pub other : ¬ (key ≡ first_key starting epoch)

  -- the call ended at its hello, or at its request
  abbrev pub EndsCall : Starting → Call → Option Key → Link R W → Link R W → CallEnd → Type 0
  EndsCall starting call earlier before after (ends.Unwelcome refusal) =
      EndsHello starting before after (ends.Unwelcome refusal)
  EndsCall starting call earlier before after (ends.Unheard fault) =
      EndsHello starting before after (ends.Unheard fault)
  EndsCall starting call earlier before after (ends.Moved key epoch) =
      HasMoved starting earlier key epoch before after
  EndsCall starting call earlier before after end = EndsFirstRequest starting call earlier before after end
