-- A world is sound after whatever happens: the first one is, and each event keeps it, and so does time.
use Rattle.rv_world.proofs.OfParts.Words.{◌≡◌, ◌⊎◌, ◌+◌, ◌<◌, ◌≤◌, ◌∷◌, ◌++◌, ◌∙◌, inl, inr, ℕ, List, []}
use Rattle.rv_world.proofs.OfParts.Words.{Bool, true, false, Option, Some, None, refl, sym, ap, subst, arith}
use Rattle.rv_world.proofs.OfParts.Words.{Contains, Contains-append_left, Contains-push, Contains-push_cases}
use Rattle.rv_world.proofs.OfParts.Words.{none-some, same_Some, Version, Key, Message, Call, Answer, Reply}
use Rattle.rv_world.proofs.OfParts.Words.{Account, StepLimits, NextUnder, Process, New, Idle, Outstanding}
use Rattle.rv_world.proofs.OfParts.Words.{Starting, Asking, cancel_of, first_key, hello_of, key_after}
use Rattle.rv_world.proofs.OfParts.Words.{request_of, Hears, Outcome, Welcomed, TurnedAway, Settled}
use Rattle.rv_world.proofs.OfParts.Words.{EpochEnded, Replaced, Ignored, Event, Packet, Seen, World, accounts}
use Rattle.rv_world.proofs.OfParts.Words.{empty_account, first_world, process_of, IsHeld, WasAsked}
use Rattle.rv_world.proofs.OfParts.Words.{ChangesProcess, ComesTo, OnlyChangesProcess, StepsUnder}
use Rattle.rv_world.proofs.OfParts.Words.{WorldBecomes, sender, with_message, start_of, HasEachKeyOnce}
use Rattle.rv_world.proofs.OfParts.Words.{IsAnswered, OnlyGrows, Elapses, Happening, Happens, RunsAnyhow}
use Rattle.rv_world.proofs.OfParts.Words.{TimePasses, Under, IsSoundWorld}
use Rattle.std.specs.Prelude.{◌≢◌, if◌then◌else◌, nat_lt, slice_get}
use Rattle.rv_account.specs.Account.{Extends}
use Rattle.rv_account.proofs.OfState.Extending.{steps_extend_under, ticks_extend}
use Rattle.rv_account.proofs.OfState.StateLaws.{ticks_move}
use Rattle.rv_text.specs.Members.{max_identifier}
use Rattle.rv_world.specs.parts.Events.{IsNewest, IsTold}
use Rattle.rv_world.specs.parts.Sound.{IsAskedFor, IsOwed, IsProcessOf, IsUnasked}
use Rattle.rv_world.proofs.OfParts.Answered.{IsToldReply, next_arrives, next_legal, next_told, ticked_arrives}
use Rattle.rv_world.proofs.OfParts.Epochs.{IsLegalIn, below_last, empty_legal, legal_accounts, rises_front}
use Rattle.rv_world.proofs.OfParts.Epochs.{rises_none, rises_push, still_legal}
use Rattle.rv_world.proofs.OfParts.Growth.{step_grows, time_grows}
use Rattle.rv_world.proofs.OfParts.Listing.{once_none, once_push, stands_at}
use Rattle.rv_world.proofs.OfParts.OneReply.{IsNewReply, one_reply_each, still_asked}
use Rattle.rv_world.proofs.OfParts.Turning.{AreOwn, SameFor, all_own, same_for, still_own, turned_own}
use Rattle.rv_text.specs.declared.message.Message.TheVariants as message
use Rattle.rv_text.specs.declared.answer.Answer.TheVariants as answers
use Rattle.rv_text.specs.declared.answer.Refusal.TheVariants as refusals
use Rattle.rv_world.specs.declared.parts.event.Event.TheVariants as event

-- ---- what was asked for stays so

still_asked_for : (w v : World) (m : Message) → OnlyGrows w v → IsAskedFor w m → IsAskedFor v m
still_asked_for w v (message.Hello client incarnation version) grows asked = tt
still_asked_for w v (message.Request key call) grows asked = still_asked w v key call grows asked
still_asked_for w v (message.Cancel key) grows asked = (asked.0, still_asked w v key asked.0 grows asked.1)

-- with one message more
all_asked_for : (w v : World) (said : Message) → IsSoundWorld w → OnlyGrows w v → IsAskedFor v said
    → (m : Message) → Contains (w.to_server ++ said ∷ []) m → IsAskedFor v m
all_asked_for w v said sound grows asked m there = elim (Contains-push_cases w.to_server said m there) [
  | inl before ↦ still_asked_for w v m grows (sound.accounted.messages m before)
  | inr new ↦ subst (IsAskedFor v) new asked
]

-- ---- an event between clients and link alone

-- the accounts and the answers stay, and each reply that is new among those held is one of the answers
quiet_sound : (w v : World) → IsSoundWorld w → OnlyGrows w v → accounts v ≡ accounts w
    → v.to_client ≡ w.to_client → HasEachKeyOnce v.asked → HasEachKeyOnce v.held
    → ((key : Key) (told : Reply) → IsHeld v key told → IsHeld w key told ⊎ IsAnswered w key told) → AreOwn v
    → ((m : Message) → Contains v.to_server m → IsAskedFor v m)
    → ((key : Key) (call : Call) → WasAsked v key call → Contains v.started (key.client, key.incarnation))
    → IsSoundWorld v
quiet_sound w v sound grows same answered asked_once held_once holds own messages starts =
    let rises = subst (λ (list : List Account). (i j : ℕ) (a b : Account) → slice_get list i ≡ Some a
    → slice_get list j ≡ Some b → i < j → a.epoch < b.epoch) (sym same) sound.epochs_rise in
    let legal = legal_accounts v rises (λ a there. still_legal w v a sound.legal_accounts
    (λ key call. still_asked w v key call grows) (subst (λ list. Contains list a) same there)) in
    let replies : (key : Key) (told : Reply) → IsAnswered v key told
    → IsAnswered w key told = λ key told is. (
      is.0,
      subst (λ (list : List Packet). Contains list
          (record { client = is.0; answer = answers.Replied key told })) answered is.1,
    ) in
    record {
      epochs_rise = rises;
      no_two_replies = one_reply_each w v grows sound.legal_accounts legal sound.no_two_replies asked_once
          held_once holds (λ key told is. inl (replies key told is));
      legal_accounts = legal;
      processes = own;
      accounted = record { messages = messages; starts = starts };
    }

-- only processes are others
turns_sound : (w : World) (client : ℕ) (process : Option Process) (v : World) → IsSoundWorld w
    → ChangesProcess w client process v → OnlyGrows w v
    → ((turned : Process) → process ≡ Some turned → IsProcessOf w client turned) → IsSoundWorld v
turns_sound w client process v sound changes grows turned =
    subst (λ (u : World). OnlyChangesProcess w u client process → OnlyGrows w u → IsSoundWorld u)
    (sym changes.rest) (turned_sound v.clients) changes.changes grows
  where
    turned_sound : (clients : List (ℕ × Option Process))
        → OnlyChangesProcess w (record w { clients = clients }) client process
        → OnlyGrows w (record w { clients = clients }) → IsSoundWorld (record w { clients = clients })
    turned_sound clients only grows =
        let u : World = record w { clients = clients } in
        quiet_sound w u sound grows refl refl sound.no_two_replies.asked_once sound.no_two_replies.held_once
        (λ key told held. inl held)
        (turned_own w u client process sound.processes only (λ other differ. same_for w u other refl refl
        refl) (λ p is. still_own w u client p (same_for w u client refl refl refl) (turned p is)))
        sound.accounted.messages sound.accounted.starts

stays_sound : (w v : World) → IsSoundWorld w → v ≡ w → IsSoundWorld v
stays_sound w v sound same = subst IsSoundWorld (sym same) sound

-- a message more, of what was asked
says_sound : (w v : World) (said : Message) → IsSoundWorld w → v ≡ with_message w said → OnlyGrows w v
    → IsAskedFor w said → IsSoundWorld v
says_sound w v said sound after grows asked =
    subst (λ (u : World). OnlyGrows w u → IsSoundWorld u) (sym after) said_sound grows
  where
    said_sound : OnlyGrows w (with_message w said) → IsSoundWorld (with_message w said)
    said_sound grows =
        let u : World = with_message w said in
        quiet_sound w u sound grows refl refl sound.no_two_replies.asked_once sound.no_two_replies.held_once
        (λ key told held. inl held)
        (all_own w u sound.processes refl refl refl refl) (all_asked_for w u said sound grows
        (still_asked_for w u said grows asked)) sound.accounted.starts

-- ---- a start

started_sound : (w : World) (client incarnation : ℕ) (version : Version) (clients : List (ℕ × Option Process))
    → IsSoundWorld w → IsNewest w client incarnation
    → let u : World = with_message (record w {
      clients = clients;
      started = w.started ++ (client, incarnation)
          ∷ [];
    }) (hello_of (start_of client incarnation version)) in
    OnlyChangesProcess w u client (Some (New (start_of client incarnation version))) → OnlyGrows w u
    → IsSoundWorld u
started_sound w client incarnation version clients sound newest only grows =
    let u : World = with_message (record w {
      clients = clients;
      started = w.started ++ (client, incarnation)
          ∷ [];
    }) (hello_of (start_of client incarnation version)) in
    let others : (other : ℕ) → other ≢ client → SameFor w u other = λ other differ. record {
      started_on = λ n there. Contains-append_left w.started ((client, incarnation) ∷ []) (other, n) there;
      started_back = λ n there. elim (Contains-push_cases w.started (client, incarnation) (other, n) there)
          [ inl before ↦ before | inr new ↦ absurd (differ (sym (ap (λ p. p.0) new))) ];
      asked_on = λ key call there. there;
      asked_back = λ key call own there. there;
      held_back = λ key told own there. there;
    } in
    let own : IsProcessOf u client (New (start_of client incarnation version)) = record {
      client_is = refl;
      last_start = record {
        there = Contains-push w.started (client, incarnation);
        greatest = λ other there. elim (Contains-push_cases w.started (client, incarnation) (client, other)
            there) [
              | inl before ↦ let less : other < incarnation = newest other before in omega arith
              | inr new ↦ let is : incarnation ≡ other = ap (λ p. p.1) new in omega arith
            ];
      };
      nothing = λ key call asked is.
          let there : Contains w.started (client, incarnation) = subst (λ i. Contains w.started (client, i))
          is.1 (subst (λ c. Contains w.started (c, key.incarnation)) is.0 (sound.accounted.starts key call
          asked)) in
          let less : incarnation < incarnation = newest incarnation there in
          omega arith;
    } in
    quiet_sound w u sound grows refl refl sound.no_two_replies.asked_once sound.no_two_replies.held_once
    (λ key told held. inl held)
    (turned_own w u client _ sound.processes only others (λ p is. subst (IsProcessOf u client)
    (same_Some _ _ is) own))
    (all_asked_for w u (hello_of (start_of client incarnation version)) sound grows tt)
    (λ key call asked. Contains-append_left w.started ((client, incarnation) ∷ [])
    (key.client, key.incarnation) (sound.accounted.starts key call asked))

-- ---- a call

begun_sound : (w : World) (client : ℕ) (key : Key) (call : Call) (clients : List (ℕ × Option Process))
    → IsSoundWorld w → process_of w client ≡ Some (Idle (Some key))
    → let u : World = with_message (record w { clients = clients; asked = w.asked ++ (key, call) ∷ [] })
    (request_of (record { key = key; call = call })) in
    OnlyChangesProcess w u client (Some (Outstanding (record { key = key; call = call }))) → OnlyGrows w u
    → IsSoundWorld u
begun_sound w client key call clients sound idle only grows =
    let u : World = with_message (record w { clients = clients; asked = w.asked ++ (key, call) ∷ [] })
    (request_of (record { key = key; call = call })) in
    let unasked : IsUnasked w client key = sound.processes client (Idle (Some key)) idle in
    let fresh : (other : Call) → WasAsked w key other
    → ⊥ = λ other asked. let less : key.number < key.number =
    (unasked.below key other asked (refl, refl)).1 in omega arith in
    let one = sound.no_two_replies in
    let others : (other : ℕ) → other ≢ client → SameFor w u other = λ other differ. record {
      started_on = λ n there. there;
      started_back = λ n there. there;
      asked_on = λ k c there. Contains-append_left w.asked ((key, call) ∷ []) (k, c) there;
      asked_back = λ k c own there. elim (Contains-push_cases w.asked (key, call) (k, c) there) [
        | inl before ↦ before
        | inr new ↦ absurd (differ (sym own ∙ ap (λ (p : Key × Call). p.0.client) (sym new)
            ∙ unasked.client_is))
      ];
      held_back = λ k told own there. there;
    } in
    let own : IsProcessOf u client (Outstanding (record { key = key; call = call })) = record {
      client_is = unasked.client_is;
      last_start = record { there = unasked.last_start.there; greatest = unasked.last_start.greatest };
      asked = Contains-push w.asked (key, call);
      last = λ k c asked is. elim (Contains-push_cases w.asked (key, call) (k, c) asked) [
        | inl before ↦ let below = unasked.below k c before is in let less : k.number < key.number =
            below.1 in (below.0, omega arith)
        | inr new ↦ let same : key ≡ k = ap (λ p. p.0) new in subst (λ (x : Key). (x.epoch ≡ key.epoch)
            × (x.number ≤ key.number)) same (refl, omega arith)
      ];
      not_held = λ told held. let asked = one.answered_asked key told (one.held_answered key told held) in
          fresh asked.0 asked.1;
    } in
    quiet_sound w u sound grows refl refl (once_push w.asked key call one.asked_once fresh) one.held_once
    (λ k told held. inl held)
    (turned_own w u client _ sound.processes only others (λ p is. subst (IsProcessOf u client)
    (same_Some _ _ is) own))
    (all_asked_for w u (request_of (record { key = key; call = call })) sound grows (Contains-push w.asked
    (key, call)))
    (λ k c asked. elim (Contains-push_cases w.asked (key, call) (k, c) asked) [
      | inl before ↦ sound.accounted.starts k c before
      | inr new ↦ subst (λ (p : Key × Call). Contains w.started (p.0.client, p.0.incarnation)) new
          (subst (λ c. Contains w.started (c, key.incarnation)) (sym unasked.client_is)
          unasked.last_start.there)
    ])

-- ---- an answer comes to its client

-- the key after one that was asked as the last is above all that were asked
after_unasked : (w v : World) (client : ℕ) (asking : Asking) → IsOwed w client asking → v.started ≡ w.started
    → v.asked ≡ w.asked → IsProcessOf v client (Idle (key_after asking.key))
after_unasked w v client asking owed started asked = by_room (nat_lt asking.key.number max_identifier)
  where
    next : Key
    next = record asking.key { number = asking.key.number + 1 }

    unasked : IsUnasked v client next
    unasked = record {
      client_is = owed.client_is;
      last_start = record {
        there = subst (λ list. Contains list (client, asking.key.incarnation)) (sym started)
            owed.last_start.there;
        greatest = λ other there. owed.last_start.greatest other
            (subst (λ list. Contains list (client, other)) started there);
      };
      below = λ key call there is.
          let upto = owed.last key call (subst (λ list. Contains list (key, call)) asked there) is in
          let most : key.number ≤ asking.key.number = upto.1 in
          (upto.0, omega arith);
    }

    by_room : (room : Bool) → IsProcessOf v client (Idle (if room then Some next else None))
    by_room true = unasked
    by_room false = tt

settled_sound : (w : World) (client : ℕ) (asking : Asking) (reply : Reply) (clients :
    List (ℕ × Option Process)) → IsSoundWorld w → process_of w client ≡ Some (Outstanding asking)
    → IsAnswered w asking.key reply
    → let u : World = record w { clients = clients; held = w.held ++ (asking.key, reply) ∷ [] } in
    OnlyChangesProcess w u client (Some (Idle (key_after asking.key))) → OnlyGrows w u → IsSoundWorld u
settled_sound w client asking reply clients sound outstanding answered only grows =
    let key : Key = asking.key in
    let u : World = record w { clients = clients; held = w.held ++ (key, reply) ∷ [] } in
    let owed : IsOwed w client asking = sound.processes client (Outstanding asking) outstanding in
    let one = sound.no_two_replies in
    let others : (other : ℕ) → other ≢ client → SameFor w u other = λ other differ. record {
      started_on = λ n there. there;
      started_back = λ n there. there;
      asked_on = λ k c there. there;
      asked_back = λ k c own there. there;
      held_back = λ k told own there. elim (Contains-push_cases w.held (key, reply) (k, told) there) [
        | inl before ↦ before
        | inr new ↦ absurd (differ (sym own ∙ ap (λ (p : Key × Reply). p.0.client) (sym new)
            ∙ owed.client_is))
      ];
    } in
    quiet_sound w u sound grows refl refl one.asked_once (once_push w.held key reply one.held_once
    (λ other held. owed.not_held other held))
    (λ k told held. elim (Contains-push_cases w.held (key, reply) (k, told) held) [
      | inl before ↦ inl before
      | inr new ↦ inr (subst (λ (p : Key × Reply). IsAnswered w p.0 p.1) new answered)
    ])
    (turned_own w u client _ sound.processes only others (λ p is. subst (IsProcessOf u client)
    (same_Some _ _ is) (after_unasked w u client asking owed refl refl)))
    sound.accounted.messages sound.accounted.starts

-- a running process of a sound world hears an answer that was sent to it
module _ (w : World) (client : ℕ) (answer : Answer) (v : World) (shows : Seen) (sound : IsSoundWorld w)
    (grows : OnlyGrows w v)
    (answered : (key : Key) (reply : Reply) → answer ≡ answers.Replied key reply → IsAnswered w key reply)
  where
    welcomed_own : (starting : Starting) (epoch : ℕ) (next : Option Key)
        → process_of w client ≡ Some (New starting) → next ≡ Some (first_key starting epoch)
        → IsProcessOf w client (Idle next)
    welcomed_own starting epoch next there is =
        let new = sound.processes client (New starting) there in
        let unasked : IsUnasked w client (first_key starting epoch) = record {
          client_is = new.client_is;
          last_start = new.last_start;
          below = λ key call asked own. absurd (new.nothing key call asked (own.0 ∙ new.client_is, own.1));
        } in
        subst (λ o. IsProcessOf w client (Idle o)) (sym is) unasked

    same_reply : (own key : Key) (is told : Reply) → answers.Replied own is ≡ answers.Replied key told
        → (key ≡ own) × (told ≡ is)
    same_reply own key is told same = (cc, cc)

    heard_sound : (process : Process) (outcome : Outcome) → process_of w client ≡ Some process
        → Hears process answer outcome → WorldBecomes w client answer outcome v shows → IsSoundWorld v
    heard_sound (New starting) (Welcomed next) there hears becomes =
        turns_sound w client _ v sound becomes.0 grows (λ p is. subst (IsProcessOf w client)
        (same_Some _ _ is)
        (welcomed_own starting hears.0 next there hears.2))
    heard_sound (New starting) (TurnedAway same refusal) there hears becomes =
        turns_sound w client _ v sound becomes.0 grows (λ p is. subst (IsProcessOf w client)
        (same_Some _ _ is)
        (subst (λ s. IsProcessOf w client (New s)) (sym hears.1) (sound.processes client (New starting)
        there)))
    heard_sound (Outstanding asking) (Settled next reply) there hears becomes =
        let same = same_reply asking.key becomes.key reply reply (sym hears.0 ∙ becomes.settles) in
        let only : OnlyChangesProcess w v client (Some (Idle (key_after asking.key))) =
        subst (λ o. OnlyChangesProcess w v client (Some (Idle o))) hears.1 becomes.changes in
        let rest : v ≡ record w { clients = v.clients; held = w.held ++ (asking.key, reply) ∷ [] } =
        subst (λ (k : Key). v ≡ record w { clients = v.clients; held = w.held ++ (k, reply) ∷ [] }) same.0
        becomes.rest in
        subst (λ (u : World). OnlyChangesProcess w u client (Some (Idle (key_after asking.key))) → OnlyGrows w
        u
        → IsSoundWorld u) (sym rest)
        (settled_sound w client asking reply v.clients sound there (answered asking.key reply hears.0)) only
        grows
    heard_sound process (EpochEnded key current) there hears becomes = turns_sound w client None v sound
        becomes.0 grows (λ p is. absurd (none-some p is))
    heard_sound process (Replaced key current) there hears becomes = turns_sound w client None v sound
        becomes.0
        grows (λ p is. absurd (none-some p is))
    heard_sound process (Ignored same) there hears becomes = stays_sound w v sound becomes.0
    heard_sound process outcome there hears becomes = absurd hears

comes_sound : (w : World) (sent : Packet) (process : Option Process) (v : World) (shows : Seen)
    → IsSoundWorld w → OnlyGrows w v → Contains w.to_client sent → process_of w sent.client ≡ process
    → ComesTo process w sent v shows → IsSoundWorld v
comes_sound w sent None v shows sound grows there runs comes = stays_sound w v sound comes.0
comes_sound w sent (Some process) v shows sound grows there runs comes =
    heard_sound w sent.client sent.answer v shows sound grows
    (λ key reply is. (
      sent.client,
      subst (λ (x : Answer). Contains w.to_client (record {
        client = sent.client;
        answer = x;
      })) is there,
    ))
    process comes.outcome runs comes.hears comes.becomes

-- ---- a message comes to the server

refused_no_reply : (key : Key) (told : Reply)
    → ◌≡◌ {A = Answer} (answers.Refused refusals.NoMemory) (answers.Replied key told) → ⊥
refused_no_reply key told is = cc

pub asked_by : (w : World) (m : Message) (b : Account) (key : Key) (told : Reply) → IsAskedFor w m
    → IsToldReply m b key told → (call : Call) × WasAsked w key call
asked_by w m b key told asked is = elim is.asks [
  | inl request ↦ (request.0, subst (IsAskedFor w) request.1 asked)
  | inr cancel ↦ subst (IsAskedFor w) cancel asked
]

-- where the present account goes on to a legal one whose arrivals were asked, and of the answers each reply
-- that is new is the one in it
pub goes_on_sound : (w : World) (present : Account) (sent : List Packet) → IsSoundWorld w
    → Extends w.present present → let u : World = record w { present = present; to_client = sent } in
    IsLegalIn u present
    → ((key : Key) (told : Reply) → IsAnswered u key told → IsAnswered w key told ⊎ IsNewReply u key told)
    → OnlyGrows w u → IsSoundWorld u
goes_on_sound w present sent sound extends own replies grows =
    let u : World = record w { present = present; to_client = sent } in
    let one = sound.no_two_replies in
    let rises = rises_push w.earlier present (rises_front w.earlier w.present sound.epochs_rise)
    (λ a in_earlier. subst (λ n. a.epoch < n) (sym extends.epoch) (below_last w.earlier w.present a
    sound.epochs_rise in_earlier)) in
    let legal = legal_accounts u rises (λ a among. elim (Contains-push_cases w.earlier present a among) [
      | inl before ↦ still_legal w u a sound.legal_accounts (λ key call was. was) (Contains-append_left
          w.earlier (w.present ∷ []) a before)
      | inr last ↦ subst (IsLegalIn u) last own
    ]) in
    record {
      epochs_rise = rises;
      no_two_replies = one_reply_each w u grows sound.legal_accounts legal one one.asked_once one.held_once
          (λ key reply held. inl held) replies;
      legal_accounts = legal;
      processes = all_own w u sound.processes refl refl refl refl;
      accounted = record { messages = sound.accounted.messages; starts = sound.accounted.starts };
    }

reached_sound : (limits : StepLimits) (w : World) (present : Account) (moment : ℕ) (m : Message)
    (said told : Answer) → IsSoundWorld w → Contains w.to_server m
    → NextUnder limits w.present moment m present said → IsTold said told
    → let u : World = record w {
      present = present;
      to_client = w.to_client ++ record {
        client = sender m;
        answer = told;
      } ∷ [];
    } in OnlyGrows w u → IsSoundWorld u
reached_sound limits w present moment m said told sound there next is_told grows =
    let packet : Packet = record { client = sender m; answer = told } in
    let u : World = record w { present = present; to_client = w.to_client ++ packet ∷ [] } in
    let asked : IsAskedFor w m = sound.accounted.messages m there in
    let was_present : Contains (accounts w) w.present = Contains-push w.earlier w.present in
    let own : IsLegalIn u present = record {
      legal = next_legal limits w.present present moment m said (sound.legal_accounts.legal w.present
          was_present) next;
      asked = λ r key call arrived. elim (next_arrives limits w.present present moment m said r key call next
          arrived) [
            | inl before ↦ sound.legal_accounts.arrivals_asked w.present r key call was_present before
            | inr new ↦ subst (IsAskedFor w) new asked
          ];
    } in
    let new_reply : (key : Key) (reply : Reply) → told ≡ answers.Replied key reply
    → IsNewReply u key reply = λ key reply is. elim is_told [
      | inl same ↦
          let to = next_told limits w.present present moment m key reply (subst (NextUnder limits w.present
          moment m present) (sym same ∙ is) next) in
          let call = asked_by w m present key reply asked to in
          record {
            call = call.0;
            asked = call.1;
            is_of = record {
              account = present;
              is_of =
                  record { is_there = Contains-push w.earlier present; epoch_is = sym to.epoch };
              has = to.has;
            };
          }
      | inr none ↦ absurd (refused_no_reply key reply (sym none.1 ∙ is))
    ] in
    goes_on_sound w present (w.to_client ++ packet ∷ []) sound (steps_extend_under limits w.present present
    moment m said next) own
    (λ key reply is. elim (Contains-push_cases w.to_client packet (record {
      client = is.0;
      answer = answers.Replied key reply;
    }) is.1) [
      | inl before ↦ inl (is.0, before)
      | inr new ↦ inr (new_reply key reply (ap (λ (p : Packet). p.answer) new))
    ]) grows

-- ---- time passes

passed_sound : (w : World) (moment : ℕ) (v : World) → IsSoundWorld w → TimePasses w moment v → IsSoundWorld v
passed_sound w moment v sound passes =
    let there : Contains (accounts w) w.present = Contains-push w.earlier w.present in
    let legal = sound.legal_accounts.legal w.present there in
    subst (λ (u : World). OnlyGrows w u → IsSoundWorld u) (sym passes.rest)
    (goes_on_sound w v.present w.to_client sound (ticks_extend w.present v.present moment passes.ticks)
    (record {
      legal = (ticks_move w.present v.present moment legal passes.not_before passes.ticks).legal;
      asked = λ r key call arrived. sound.legal_accounts.arrivals_asked w.present r key call there
          (ticked_arrives w.present v.present moment r key call passes.ticks arrived);
    }) (λ key reply is. inl is)) (time_grows w moment v passes)

-- ---- a new server

opened_sound : (w : World) (epoch : ℕ) → IsSoundWorld w → w.present.epoch < epoch
    → let u : World = record w { earlier = accounts w; present = empty_account epoch } in OnlyGrows w u
    → IsSoundWorld u
opened_sound w epoch sound greater grows =
    let u : World = record w { earlier = accounts w; present = empty_account epoch } in
    let one = sound.no_two_replies in
    let rises = rises_push (accounts w) (empty_account epoch) sound.epochs_rise
    (λ a among. elim (Contains-push_cases w.earlier w.present a among) [
      | inl before ↦ let less : a.epoch < w.present.epoch = below_last w.earlier w.present a sound.epochs_rise
          before in omega (arith, greater)
      | inr last ↦ subst (λ (b : Account). b.epoch < epoch) last greater
    ]) in
    let legal = legal_accounts u rises (λ a among. elim (Contains-push_cases (accounts w)
    (empty_account epoch) a among) [
      | inl before ↦ still_legal w u a sound.legal_accounts (λ key call was. was) before
      | inr last ↦ subst (IsLegalIn u) last (empty_legal u epoch)
    ]) in
    record {
      epochs_rise = rises;
      no_two_replies = one_reply_each w u grows sound.legal_accounts legal one one.asked_once one.held_once
          (λ key reply held. inl held) (λ key reply is. inl is);
      legal_accounts = legal;
      processes = all_own w u sound.processes refl refl refl refl;
      accounted = record { messages = sound.accounted.messages; starts = sound.accounted.starts };
    }

-- ---- together

nothing_there : {X : Type 0} (x : X) → Contains [] x → ⊥
nothing_there x there = let inside : there.0 < 0 = there.1 in omega arith

pub first_sound : (epoch : ℕ) → IsSoundWorld (first_world epoch)
first_sound epoch =
    let w : World = first_world epoch in
    let rises = rises_push [] (empty_account epoch) rises_none (λ a there. absurd (nothing_there a there)) in
    record {
      epochs_rise = rises;
      no_two_replies = record {
        asked_once = once_none;
        held_once = once_none;
        held_answered = λ key told held. absurd (nothing_there (key, told) held);
        answered_asked = λ key told answered. absurd (nothing_there (record {
          client = answered.0;
          answer =
              answers.Replied key told;
        }) answered.1);
        answered_is = λ key told answered. absurd (nothing_there (record {
          client = answered.0;
          answer =
              answers.Replied key told;
        }) answered.1);
        one_reply = λ key one other answered also. absurd
            (nothing_there (record { client = answered.0; answer = answers.Replied key one }) answered.1);
      };
      legal_accounts = legal_accounts w rises (λ a there. elim (Contains-push_cases [] (empty_account epoch) a
          there) [
            | inl before ↦ absurd (nothing_there a before)
            | inr last ↦ subst (IsLegalIn w) last (empty_legal w epoch)
          ]);
      processes = λ client process there. absurd (none-some process there);
      accounted = record {
        messages = λ m there. absurd (nothing_there m there);
        starts = λ key call asked. absurd (nothing_there (key, call) asked);
      };
    }

pub step_sound : (limits : StepLimits) (w : World) (e : Event) (v : World) (shows : Seen) → IsSoundWorld w
    → StepsUnder limits w e v shows → IsSoundWorld v
step_sound limits w (event.Start client incarnation version) v shows sound is =
    subst (λ (u : World). OnlyChangesProcess w u client (Some (New (start_of client incarnation version)))
    → OnlyGrows w u → IsSoundWorld u) (sym is.rest)
    (started_sound w client incarnation version v.clients sound is.newest) is.changes
    (step_grows limits w (event.Start client incarnation version) v shows is)
step_sound limits w (event.Begin client call) v shows sound is =
    subst (λ (u : World). OnlyChangesProcess w u client
    (Some (Outstanding (record { key = is.key; call = call }))) → OnlyGrows w u
    → IsSoundWorld u) (sym is.rest)
    (begun_sound w client is.key call v.clients sound is.idle) is.changes
    (step_grows limits w (event.Begin client call) v shows is)
step_sound limits w (event.Resend client) v shows sound is =
    let owed = sound.processes client (Outstanding is.asking) is.outstanding in
    says_sound w v (request_of is.asking) sound is.after (step_grows limits w (event.Resend client) v shows
    is)
    owed.asked
step_sound limits w (event.CancelSent client) v shows sound is =
    let owed = sound.processes client (Outstanding is.asking) is.outstanding in
    says_sound w v (cancel_of is.asking) sound is.after (step_grows limits w (event.CancelSent client) v shows
    is)
    (is.asking.call, owed.asked)
step_sound limits w (event.Crash client) v shows sound is = turns_sound w client None v sound is.ends
    (step_grows limits w (event.Crash client) v shows is) (λ p none. absurd (none-some p none))
step_sound limits w (event.ToServer packet moment) v shows sound is =
    subst (λ (u : World). OnlyGrows w u → IsSoundWorld u) (sym is.rest)
    (reached_sound limits w v.present moment is.message is.said is.told sound (stands_at w.to_server packet
    is.message is.there) is.next is.is_told) (step_grows limits w (event.ToServer packet moment) v shows is)
step_sound limits w (event.ToClient packet) v shows sound is =
    comes_sound w is.sent (process_of w is.sent.client) v shows sound
    (step_grows limits w (event.ToClient packet) v
    shows is) (stands_at w.to_client packet is.sent is.there) refl is.comes
step_sound limits w (event.NewEpoch epoch) v shows sound is =
    subst (λ (u : World). OnlyGrows w u → IsSoundWorld u) (sym is.after) (opened_sound w epoch sound
    is.greater) (step_grows limits w (event.NewEpoch epoch) v shows is)

happened_sound : (w : World) (happening : Happening) (v : World) → IsSoundWorld w → Happens w happening v
    → IsSoundWorld v
happened_sound w (Under limits e) v sound is = step_sound limits w e v is.0 sound is.1
happened_sound w (Elapses moment) v sound passes = passed_sound w moment v sound passes

pub runs_sound_anyhow : (w : World) (happenings : List Happening) (v : World) → IsSoundWorld w
    → RunsAnyhow w happenings v → IsSoundWorld v
runs_sound_anyhow w [] v sound same = stays_sound w v sound same
runs_sound_anyhow w (happening ∷ happenings) v sound runs =
    runs_sound_anyhow runs.0 happenings v (happened_sound w happening runs.0 sound runs.1) runs.2
