-- What an entry makes of a state that it may follow: the state after it, which requests it settles, and its
-- own reply.
use Rattle.std.specs.Prelude.{ℕ, zero, suc, ◌+◌, Bool, true, false, cond, not, ◌&&◌, List, [], ◌∷◌, ◌++◌, map}
use Rattle.std.specs.Prelude.{filter}
use Rattle.std.specs.Prelude.{filter_map, fold, length, take, nat_eq, nat_lt, Option, Some, None, is_some}
use Rattle.std.specs.Prelude.{option_and_then, option_map}
use Rattle.std.specs.List.{list_any}
use Rattle.std.specs.FinMap.{FinMap, from_entries, get, insert, keys}
use Rattle.std.specs.Ordering.{nat_cmp}
use Rattle.rv_text.specs.declared.version.Version.{Version}
use Rattle.rv_text.specs.declared.version.Version.TheVariants.{One, Two}
use Rattle.rv_text.specs.declared.message.Key.{Key}
use Rattle.rv_text.specs.declared.call.Wait.{Wait}
use Rattle.rv_text.specs.declared.call.Wait.TheVariants.{Now, Millis, Forever}
use Rattle.rv_text.specs.declared.call.Side.TheVariants.{Gives, Takes}
use Rattle.rv_text.specs.declared.call.Call.{Call}
use Rattle.rv_text.specs.declared.call.Call.TheVariants as call
use Rattle.rv_text.specs.declared.answer.Reply.{Reply}
use Rattle.rv_text.specs.declared.answer.Reply.TheVariants as reply
use Rattle.rv_text.specs.Calls.{item_of, side_of, wait_of}
use Rattle.rv_due.specs.Deadlines.{Deadline, by_moment}
use Rattle.rv_account.specs.declared.entry.Entry.{Entry}
use Rattle.rv_account.specs.declared.entry.Act.{Act}
use Rattle.rv_account.specs.declared.entry.Act.TheVariants.{Hello, Arrive, Cancel, Tick}
use Rattle.rv_account.specs.Account.{Account}
use Rattle.rv_account.specs.Calls.{limit_of, may_name, opposite}
use Rattle.rv_account.specs.state.State.{OpenPlace, Waiter, LastRequest, ClientState, State, opening, line}
use Rattle.rv_account.specs.state.State.{opposites}
use Rattle.rv_account.specs.state.State.{open_at, client_at, client_waits, call_waiting}
use Rattle.rv_session.specs.declared.client.LastRequest.TheVariants.{Fresh, Waits, RepliedTo, CancelledUnseen}
-- a request that waited, which has its reply; and a client with another last request
pub use Rattle.rv_session.specs.Clients.{answered, with_request}

-- a key that waited, and the reply of its request
pub record Settled : Type 0 where
  pub key : Key
  pub reply : Reply

-- what an entry makes of a state: the state after it; the requests that it settles, in their order; and the
-- reply of its own key, if it has one
pub record Following : Type 0 where
  pub after : State
  pub settles : List Settled
  pub reply : Option Reply

-- ---- replies to those that waited

abbrev pub insert_told : FinMap nat_cmp ClientState → Settled → Option ClientState
    → FinMap nat_cmp ClientState
insert_told clients settled None = clients
insert_told clients settled (Some client) =
    insert clients settled.key.client (with_request client (answered settled.reply client.request))

-- the client of a key that waited gets the reply
abbrev pub tell : FinMap nat_cmp ClientState → Settled → FinMap nat_cmp ClientState
tell clients settled = insert_told clients settled (get clients settled.key.client)

abbrev pub tell_all : FinMap nat_cmp ClientState → List Settled → FinMap nat_cmp ClientState
tell_all clients settles = fold tell clients settles

-- ---- closing

-- the open places without those
abbrev pub but : List OpenPlace → List OpenPlace → List OpenPlace
but all gone = filter (λ o. not (list_any (λ other. nat_eq other.place o.place) gone)) all

-- the request that waits at an open place is settled with its reply, if there is one
abbrev pub settled_at : (OpenPlace → Key → Option Reply) → OpenPlace → Option Settled
settled_at told there =
    option_and_then (λ w. option_map (λ r. record { key = w.key; reply = r }) (told there w.key)) there.waiter

abbrev pub settled_all : (OpenPlace → Key → Option Reply) → List OpenPlace → List Settled
settled_all told gone = filter_map (settled_at told) gone

-- those places are open no longer, and these requests have their replies
abbrev pub closed : State → List OpenPlace → List Settled → State
closed s gone settles =
    record {
      epoch = s.epoch;
      moment = s.moment;
      length = s.length;
      open_places = but s.open_places gone;
      clients = tell_all s.clients settles;
    }

-- the requests that wait at those places are stopped, with this reply
abbrev pub stopped : State → List OpenPlace → Reply → Following
stopped s gone told =
    let settles : List Settled = settled_all (λ there key. Some told) gone in
    record { after = closed s gone settles; settles = settles; reply = None }

-- ---- deadlines

abbrev pub deadline_of_place : OpenPlace → Option Deadline
deadline_of_place there = option_map (λ limit. (limit, there.place)) there.limit

-- the limits of what is open, each with its place, the least first
abbrev pub limits_of : State → FinMap by_moment (Unit {0})
limits_of s = from_entries (map (λ deadline. (deadline, tt)) (filter_map deadline_of_place s.open_places))

-- the open places whose limit is at or before a moment, by limit and then place
abbrev pub due_at : State → ℕ → List OpenPlace
due_at s moment =
    filter_map (λ deadline. open_at s deadline.1)
    (filter (λ deadline. not (nat_lt moment deadline.0)) (keys (limits_of s)))

-- ---- hellos, cancels and ticks

abbrev pub just_open : Option OpenPlace → List OpenPlace
just_open None = []
just_open (Some there) = there ∷ []

abbrev pub with_client : State → ℕ → ClientState → State
with_client s client session =
    record {
      epoch = s.epoch;
      moment = s.moment;
      length = s.length;
      open_places = s.open_places;
      clients = insert s.clients client session;
    }

-- a hello opens a session, and what waits of an earlier one is cancelled
abbrev pub greeted : State → ℕ → ClientState → Following
greeted s client session =
    let ended : Following = stopped s (just_open (client_waits s client)) reply.Cancelled in
    record { after = with_client ended.after client session; settles = ended.settles; reply = None }

abbrev pub with_last : State → Key → LastRequest → Option ClientState → State
with_last s key request None = s
with_last s key request (Some client) =
    with_client s key.client
    (record {
      incarnation = client.incarnation;
      version = client.version;
      last = key.number;
      request = request;
    })

-- the key's number is its session's last, and this became of its request
abbrev pub asked : State → Key → LastRequest → State
asked s key request = with_last s key request (client_at s key.client)

-- a cancel ends what waits, or settles a number before its request came
abbrev pub cancelled : State → Key → Option OpenPlace → Following
cancelled s key None =
    record { after = asked s key CancelledUnseen; settles = []; reply = Some reply.Cancelled }
cancelled s key (Some there) =
    let ended : Following = stopped s (there ∷ []) reply.Cancelled in
    record { after = ended.after; settles = ended.settles; reply = Some reply.Cancelled }

-- ---- replies

-- the reply of a transfer that was met, by its session's version
abbrev pub receipt_of : Version → Option Key → Option Reply
receipt_of One taker = Some reply.Received
receipt_of Two taker = option_map (λ key. reply.ReceivedBy key) taker

abbrev pub session_version : State → Key → Option Version
session_version s key = option_map (λ client. client.version) (client_at s key.client)

-- the reply of a transfer, a take or a swap with the first key, which meets one with the other key and this
-- item. A put and a drain get other replies, and a count and a peek meet nobody
abbrev pub told_met : State → Key → Call → Option Key → Option (List ℕ) → Option Reply
told_met s key (call.Put queue item) other gets = None
told_met s key (call.Transfer queue item wait) other gets =
    option_and_then (λ version. receipt_of version other) (session_version s key)
told_met s key (call.Take queue wait) other gets = option_map (λ item. reply.Item item) gets
told_met s key (call.Swap exchanger item wait) other gets = option_map (λ item. reply.Swapped item) gets
told_met s key (call.Count queue) other gets = None
told_met s key (call.Peek queue) other gets = None
told_met s key (call.Drain queue max) other gets = None

-- the reply that a request that meets nobody has when it comes, by its wait; none if it goes on waiting
abbrev pub told_unmet : Wait → Reply → Option Reply
told_unmet Now at_once = Some at_once
told_unmet (Millis zero) at_once = Some reply.TimedOut
told_unmet (Millis (suc n)) at_once = None
told_unmet Forever at_once = None

-- the reply of a peek, by the queue's items
abbrev pub told_front : List OpenPlace → Option Reply
told_front [] = Some reply.Empty
told_front (front ∷ others) = option_map (λ item. reply.Peeked item) front.item

-- the reply of an arrival that meets nobody when it comes; none where it waits
abbrev pub told_alone : State → Call → Option Reply
told_alone s (call.Put queue item) = Some reply.Done
told_alone s (call.Transfer queue item wait) = told_unmet wait reply.Nobody
told_alone s (call.Take queue wait) = told_unmet wait reply.Empty
told_alone s (call.Swap exchanger item wait) = told_unmet wait reply.TimedOut
told_alone s (call.Count queue) =
    Some (reply.Counted (length (line s (Gives queue))) (length (line s (Takes queue))))
told_alone s (call.Peek queue) = told_front (line s (Gives queue))
told_alone s (call.Drain queue max) = Some (reply.Drained [])

abbrev pub key_of_waiter : OpenPlace → Option Key
key_of_waiter there = option_map (λ w. w.key) there.waiter

abbrev pub told_first : State → Key → Call → OpenPlace → Option Reply
told_first s key call first = told_met s key call (key_of_waiter first) first.item

-- the reply of an arrival that meets these, by its call: a put is done, a drain gets all items, and any other
-- call meets one
abbrev pub told_with : State → Key → Call → OpenPlace → List OpenPlace → Option Reply
told_with s key (call.Put queue item) first others = Some reply.Done
told_with s key (call.Transfer queue item wait) first others =
    told_first s key (call.Transfer queue item wait) first
told_with s key (call.Take queue wait) first others = told_first s key (call.Take queue wait) first
told_with s key (call.Swap exchanger item wait) first others =
    told_first s key (call.Swap exchanger item wait) first
told_with s key (call.Count queue) first others = None
told_with s key (call.Peek queue) first others = None
told_with s key (call.Drain queue max) first others =
    Some (reply.Drained (filter_map (λ o. o.item) (first ∷ others)))

abbrev pub told_own : State → Key → Call → List OpenPlace → Option Reply
told_own s key call [] = told_alone s call
told_own s key call (first ∷ others) = told_with s key call first others

-- the reply of the request that waits at a place that an arrival with this key and call meets
abbrev pub told_partner : State → Key → Call → OpenPlace → Key → Option Reply
told_partner s key call there waits =
    option_and_then (λ its. told_met s waits its (Some key) (item_of call))
    (option_and_then (λ client. call_waiting client.request) (client_at s waits.client))

-- ---- arrivals

-- those that an arrival with this call meets: the oldest of those that it might meet, as many as it may name
abbrev pub met_by : State → Call → List OpenPlace
met_by s call = take (may_name call) (opposites s call)

-- whether a wait lasts (`Lasts`)
abbrev pub lasts_by : Option Wait → Bool
lasts_by None = true
lasts_by (Some Now) = false
lasts_by (Some (Millis n)) = nat_lt 0 n
lasts_by (Some Forever) = true

-- what meets nobody stays, if its call does
abbrev pub stays_open : Call → List OpenPlace → Bool
stays_open call [] = is_some (opposite (side_of call)) && lasts_by (wait_of call)
stays_open call (first ∷ others) = false

-- the request that waits at an arrival; none for a put
abbrev pub waiter_of : Key → ℕ → Option Wait → Option Waiter
waiter_of key moment None = None
waiter_of key moment (Some wait) = Some (record { key = key; since = moment })

-- the open place of an arrival that stays
abbrev pub opened_by : State → ℕ → Key → Call → OpenPlace
opened_by s moment key call =
    record {
      place = s.length;
      side = side_of call;
      item = item_of call;
      limit = limit_of moment call;
      waiter = waiter_of key moment (wait_of call);
    }

abbrev pub parked : State → ℕ → Key → Call → List OpenPlace → List OpenPlace
parked s moment key call met = cond (stays_open call met) (opened_by s moment key call ∷ []) []

abbrev pub with_open : State → List OpenPlace → State
with_open s there =
    record {
      epoch = s.epoch;
      moment = s.moment;
      length = s.length;
      open_places = s.open_places ++ there;
      clients = s.clients;
    }

abbrev pub request_after : ℕ → Call → Option Reply → LastRequest
request_after place call None = Waits place call
request_after place call (Some reply) = RepliedTo call reply

-- an arrival meets those that it names, which get their replies; or it meets none, and is open if it stays
abbrev pub arrived : State → ℕ → Key → Call → Following
arrived s moment key call =
    let met : List OpenPlace = met_by s call in
    let settles : List Settled = settled_all (told_partner s key call) met in
    let own : Option Reply = told_own s key call met in
    let open_then : State = with_open (closed s met settles) (parked s moment key call met) in
    record { after = asked open_then key (request_after s.length call own); settles = settles; reply = own }

-- ---- an entry

-- what an act at a moment makes of a state, apart from the moment and the number of entries
abbrev pub acted : State → ℕ → Act → Following
acted s moment (Hello client incarnation version) =
    greeted s client
    (record { incarnation = incarnation; version = version; last = 0; request = Fresh })
acted s moment (Arrive key call) = arrived s moment key call
acted s moment (Cancel key) = cancelled s key (client_waits s key.client)
acted s moment Tick = stopped s (due_at s moment) reply.TimedOut

-- one more entry, of this moment
abbrev pub advanced : State → ℕ → State
advanced s moment =
    record {
      epoch = s.epoch;
      moment = moment;
      length = s.length + 1;
      open_places = s.open_places;
      clients = s.clients;
    }

-- what an entry of this moment and act makes of a state that it may follow
abbrev pub following : State → ℕ → Act → Following
following s moment does =
    let made : Following = acted s moment does in
    record { after = advanced made.after moment; settles = made.settles; reply = made.reply }

abbrev pub state_after : State → Entry → State
state_after s e = (following s e.moment e.act).after

-- ---- the state of an account

-- the state of a legal account, by one pass over its entries
abbrev pub state_of : Account → State
state_of a = fold state_after (opening a.epoch a.opened) a.entries
