-- What is kept of each client's reply: the places of the account where its texts and its consumer stand.
use Rattle.std.specs.Prelude.{◌≡◌, ℕ, List, [], ◌∷◌, Option, Some, None, option_map, slice_get, unwrap_or}
use Rattle.std.specs.FinMap.{FinMap, get}
use Rattle.std.specs.Ordering.{nat_cmp}
use Rattle.rv_text.specs.declared.call.Side.{Side}
use Rattle.rv_text.specs.declared.call.Side.TheVariants.{Gives, Takes, Looks, Exchanges}
use Rattle.rv_text.specs.declared.answer.Reply.{Reply}
use Rattle.rv_text.specs.declared.answer.Reply as reply
use Rattle.rv_text.specs.Calls.{drains_of, side_of}
use Rattle.rv_session.specs.declared.client.ClientState.{ClientState}
use Rattle.rv_session.specs.declared.client.LastRequest.{LastRequest}
use Rattle.rv_session.specs.declared.kept.Kept.{Kept}
use Rattle.rv_session.specs.declared.kept.Kept as kept
use Rattle.rv_account.specs.declared.entry.Entry.{Entry}
use Rattle.rv_account.specs.declared.entry.Act.{Act}
use Rattle.rv_account.specs.declared.entry.Act.TheVariants.{Hello, Arrive, Cancel, Tick}
use Rattle.rv_account.specs.state.State.{State, line, place_list}
use Rattle.rv_account.specs.state.Moves.{told_again}
-- Re-exported from Recalling: from what is kept to the reply.
pub use Rattle.rv_book.specs.reply_cache.Recalling.{ReplyHasText, reply_of}

-- ---- from the reply to what is kept

-- what is kept of a reply whose text, texts or consumer are at this place
abbrev pub kept_from : ℕ → Reply → Kept
kept_from place reply.TheVariants.Done = kept.TheVariants.Done
kept_from place reply.TheVariants.Received = kept.TheVariants.Received
kept_from place (reply.TheVariants.ReceivedBy key) = kept.TheVariants.ReceivedBy place
kept_from place reply.TheVariants.Nobody = kept.TheVariants.Nobody
kept_from place (reply.TheVariants.Item text) = kept.TheVariants.Item place
kept_from place reply.TheVariants.Empty = kept.TheVariants.Empty
kept_from place (reply.TheVariants.Swapped text) = kept.TheVariants.Swapped place
kept_from place reply.TheVariants.Cancelled = kept.TheVariants.Cancelled
kept_from place reply.TheVariants.TimedOut = kept.TheVariants.TimedOut
kept_from place (reply.TheVariants.Counted items consumers) = kept.TheVariants.Counted items consumers
kept_from place (reply.TheVariants.Peeked text) = kept.TheVariants.Peeked place
kept_from place (reply.TheVariants.Drained texts) = kept.TheVariants.Drained place

-- what is kept of the reply that a repeat of a last request gets
abbrev pub kept_again : ℕ → LastRequest → Option Kept
kept_again place request = option_map (kept_from place) (told_again request)

-- ---- that it is kept

-- the reply is the one that the entries give for what is kept; where there is none, nothing is kept
abbrev pub IsKeptAs : List Entry → Option Kept → Option Reply → Type 0
IsKeptAs entries (Some kept) (Some reply) = reply_of entries kept ≡ Some reply
IsKeptAs entries None None = Unit {0}
IsKeptAs entries _ _ = ⊥

-- what is kept for the client gives the reply that a repeat of its request gets
pub record IsKept (entries : List Entry) (kepts : FinMap nat_cmp (Option Kept)) (client : ℕ)
    (request : LastRequest) : Type 0 where
  pub kept : Option Kept
  pub there : get kepts client ≡ Some kept
  pub stands : IsKeptAs entries kept (told_again request)

-- for each client
abbrev pub AreKept : List Entry → FinMap nat_cmp ClientState → FinMap nat_cmp (Option Kept) → Type 0
AreKept entries clients kepts = (client : ℕ) (session : ClientState) → get clients client ≡ Some session
    → IsKept entries kepts client session.request

-- ---- where the text of an entry's own reply stands

-- the client of an act, if it names one
abbrev pub client_of : Act → Option ℕ
client_of (Hello client incarnation version) = Some client
client_of (Arrive key call) = Some key.client
client_of (Cancel key) = Some key.client
client_of Tick = None

-- the place of the front item of the queue at which a side looks
abbrev pub front_at : State → Side → Option ℕ
front_at s (Gives queue) = None
front_at s (Takes queue) = None
front_at s (Looks queue) = slice_get (place_list (line s (Gives queue))) 0
front_at s (Exchanges exchanger) = None

-- the same of the queue at which an arrival looks
abbrev pub front_of : State → Act → Option ℕ
front_of s (Hello client incarnation version) = None
front_of s (Arrive key call) = front_at s (side_of call)
front_of s (Cancel key) = None
front_of s Tick = None

-- the first that is named; else the front, or else the place itself
abbrev pub first_source : ℕ → Option ℕ → List ℕ → ℕ
first_source place front [] = unwrap_or front place
first_source place front (partner ∷ others) = partner

-- a drain's texts are found by its own place, whatever it names
abbrev pub source_named : ℕ → Option ℕ → List ℕ → Option ℕ → ℕ
source_named place front partners None = first_source place front partners
source_named place front partners (Some max) = place

abbrev pub source_in : ℕ → Option ℕ → List ℕ → Act → ℕ
source_in place front partners (Hello client incarnation version) = place
source_in place front partners (Arrive key call) = source_named place front partners (drains_of call)
source_in place front partners (Cancel key) = place
source_in place front partners Tick = place

-- where the text, the texts or the consumer of the own reply of an entry at this place stand, with this front
abbrev pub source_of : ℕ → Option ℕ → Entry → ℕ
source_of place front e = source_in place front e.partners e.act
