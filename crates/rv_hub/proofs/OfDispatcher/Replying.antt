-- A request is answered by its reply, or its connection waits for that.
use Rattle.std.proofs.Common.{◌≡◌, ◌∙◌, ℕ, List, None, Option, Some, Err, IfOk, Ok, OnErr, Result, refl}
use Rattle.std.proofs.Common.{ap, subst, sym}
use Rattle.rv_text.specs.declared.message.Key.{Key}
use Rattle.rv_text.specs.declared.answer.Answer.{Answer}
use Rattle.rv_text.specs.declared.answer.Answer.TheVariants as answer
use Rattle.rv_text.specs.declared.answer.Reply.{Reply}
use Rattle.rv_text.specs.Bodies.{answer_text}
use Rattle.rv_session.specs.declared.client.ClientState.{ClientState}
use Rattle.rv_session.specs.declared.client.LastRequest.{LastRequest}
use Rattle.rv_account.specs.state.State.{client_at}
use Rattle.rv_account.specs.state.Moves.{answer_told, told_again}
use Rattle.rv_machine.specs.declared.machine.Said.TheVariants as said
use Rattle.rv_machine.specs.Machines.{Says, state_in}
use Rattle.rv_hub.specs.declared.dispatcher.Dispatcher.{Dispatcher}
use Rattle.rv_hub.specs.dispatcher.Telling.{DoesWait, WaitsOn}
use Rattle.rv_hub.specs.dispatcher.Going.{AnswersIt, IsSameButRoom, LacksIt, MaySay, SaysIt}
use Rattle.rv_hub.proofs.OfDispatcher.Answering.{some_is}
use Rattle.rv_hub.proofs.OfDispatcher.Rooms.{lacked_in_room, said_in_room}
use Rattle.rv_hub.proofs.OfDispatcher.Saying.{lacks_so, replied_so, text_said}

-- what can be said of the request of a key
abbrev SaysOf : Dispatcher → Key → Type 0
SaysOf d key = (b : Answer) × Says (state_in d.machine) (said.Told key) b × MaySay d b

-- what is said of it, by what became of it
said_of : (d : Dispatcher) (key : Key) (session : ClientState) (a : Answer)
    → client_at (state_in d.machine) key.client ≡ Some session
    → Says (state_in d.machine) (said.Told key) a → a ≡ answer_told key (told_again session.request)
said_of d key session a there says =
    says.2 ∙ ap (λ (x : ClientState). answer_told key (told_again x.request))
    (some_is says.0 session (sym says.1 ∙ there))

-- a request with no reply waits
pub waits_told : (d : Dispatcher) (key : Key) (session : ClientState)
    → client_at (state_in d.machine) key.client ≡ Some session → DoesWait session.request → SaysOf d key
    → WaitsOn (state_in d.machine) key
waits_told d key session there waits may =
    may.2.waits key (said_of d key session may.0 there may.1
    ∙ ap (λ (r : LastRequest). answer_told key (told_again r)) waits.2)

no_reply : (d : Dispatcher) (key : Key) (session : ClientState)
    → client_at (state_in d.machine) key.client ≡ Some session → told_again session.request ≡ None
    → SaysOf d key → DoesWait session.request
no_reply d key session there none may =
    let waits = may.2.waits key (said_of d key session may.0 there may.1 ∙ ap (answer_told key) none) in
    let same = some_is waits.session session (sym waits.there ∙ there) in
    subst (λ (x : ClientState). DoesWait x.request) same (waits.place, waits.call, waits.waits)

replied : (old new : Dispatcher) (connection entries : ℕ) (key : Key) (o : Option Reply) (text : List ℕ)
    → (o ≡ None → ⊥) → entries ≡ (state_in old.machine).length → text ≡ answer_text (answer_told key o)
    → AnswersIt old connection entries text new → SaysIt old connection (answer_told key o) new
replied old new connection entries key None text some count is answers = absurd (some refl)
replied old new connection entries key (Some reply) text some count is answers =
    replied_so old connection key reply new
    (text_said old connection (answer.Replied key reply) text new is
    (subst (λ n. AnswersIt old connection n text new) count answers))

-- one that doesn't wait is answered by its reply, or that memory was refused
pub says_told : {T E : Type 0} (bytes : T → List ℕ) (written : Result T E) (old mid new : Dispatcher)
    (connection entries : ℕ) (key : Key) (session : ClientState) (a : Answer) → IsSameButRoom old mid
    → client_at (state_in old.machine) key.client ≡ Some session → (DoesWait session.request → ⊥)
    → SaysOf old key → Says (state_in old.machine) (said.Told key) a
    → entries ≡ (state_in old.machine).length
    → IfOk written (λ t. bytes t ≡ answer_text (answer_told key (told_again session.request)))
    → IfOk written (λ t. AnswersIt mid connection entries (bytes t) new)
    → OnErr written (LacksIt mid connection new) → SaysIt old connection a new
says_told bytes (Ok t) old mid new connection entries key session a first there not may says count is answers
    lacks =
    subst (λ x. SaysIt old connection x new) (sym (said_of old key session a there says))
    (replied old new connection entries key (told_again session.request) (bytes t)
    (λ none. not (no_reply old key session there none may)) count is
    (said_in_room old mid new connection entries (bytes t) first answers))
says_told bytes (Err e) old mid new connection entries key session a first there not may says count is answers
    lacks =
    lacks_so old connection a new (lacked_in_room old mid new connection first lacks)
