-- Clients keep the protocol: each key that is asked, or is asked next, is of a session that was welcomed, and
-- the request before it was told a reply; and each start says one hello.
use Rattle.rv_world.proofs.OfParts.Words.{◌≡◌, ◌⊎◌, ◌<◌, ◌+◌, ◌++◌, ◌∷◌, ◌∙◌, inl, inr, ℕ, List, [], Bool}
use Rattle.rv_world.proofs.OfParts.Words.{true, false, Option, Some, None, refl, sym, subst, arith, none-some}
use Rattle.rv_world.proofs.OfParts.Words.{same_Some, Contains, Account, Contains-append_left, Contains-push}
use Rattle.rv_world.proofs.OfParts.Words.{Contains-push_cases, same_or_not, Answer, Call, Key, Message, Reply}
use Rattle.rv_world.proofs.OfParts.Words.{Version, Process, New, Idle, Outstanding, Starting, Asking, Hears}
use Rattle.rv_world.proofs.OfParts.Words.{Outcome, Welcomed, TurnedAway, Settled, EpochEnded, Replaced}
use Rattle.rv_world.proofs.OfParts.Words.{Ignored, cancel_of, hello_of, key_after, request_of, start_of}
use Rattle.rv_world.proofs.OfParts.Words.{World, ComesTo, IsAnswered, IsSoundWorld, ChangesProcess}
use Rattle.rv_world.proofs.OfParts.Words.{OnlyChangesProcess, Steps, WasAsked, accounts, empty_account}
use Rattle.rv_world.proofs.OfParts.Words.{first_world, WorldBecomes, process_of, with_message}
use Rattle.std.specs.Prelude.{if◌then◌else◌, nat_lt}
use Rattle.rv_text.specs.Members.{max_identifier}
use Rattle.rv_text.specs.declared.answer.Answer.TheVariants as answers
use Rattle.rv_text.specs.declared.message.Message.TheVariants as message
use Rattle.rv_world.specs.declared.parts.event.Event.{Event}
use Rattle.rv_world.specs.declared.parts.event.Event.TheVariants as event
use Rattle.rv_world.specs.declared.parts.packet.Packet.{Packet}
use Rattle.rv_world.specs.declared.parts.seen.Seen.{Seen}
use Rattle.rv_world.specs.parts.Headline.{GoesOn}
use Rattle.rv_world.proofs.OfParts.Growth.{goes_on, goes_on_itself}
use Rattle.rv_world.proofs.OfParts.Listing.{stands_at, still_contains}

-- ---- a key in its turn

pub record WasToldBefore (w : World) (key : Key) : Type 0 where
  pub key_before : Key
  pub told : Reply
  pub answered : IsAnswered w key_before told
  pub epoch_is : key_before.epoch ≡ key.epoch
  pub client_is : key_before.client ≡ key.client
  pub incarnation_is : key_before.incarnation ≡ key.incarnation
  pub number_is : key_before.number + 1 ≡ key.number

pub record IsInTurn (w : World) (key : Key) : Type 0 where
  pub client : ℕ
  pub version : Version
  pub welcome : Contains w.to_client (record {
    client = client;
    answer = answers.Welcome key.epoch key.client key.incarnation version;
  })
  pub turn : (key.number ≡ 1) ⊎ WasToldBefore w key

told_on : (w v : World) (key : Key) → GoesOn w.to_client v.to_client → WasToldBefore w key
    → WasToldBefore v key
told_on w v key grows is = record {
  key_before = is.key_before;
  told = is.told;
  answered = (
    is.answered.0,
    still_contains w.to_client v.to_client (record {
      client = is.answered.0;
      answer = answers.Replied is.key_before is.told;
    }) grows is.answered.1,
  );
  epoch_is = is.epoch_is;
  client_is = is.client_is;
  incarnation_is = is.incarnation_is;
  number_is = is.number_is;
}

turn_on : (w v : World) (key : Key) → GoesOn w.to_client v.to_client → (key.number ≡ 1) ⊎ WasToldBefore w key
    → (key.number ≡ 1) ⊎ WasToldBefore v key
turn_on w v key grows (inl first) = inl first
turn_on w v key grows (inr is) = inr (told_on w v key grows is)

pub in_turn_on : (w v : World) (key : Key) → GoesOn w.to_client v.to_client → IsInTurn w key → IsInTurn v key
in_turn_on w v key grows is = record {
  client = is.client;
  version = is.version;
  welcome = still_contains w.to_client v.to_client (record {
    client = is.client;
    answer = answers.Welcome key.epoch key.client key.incarnation is.version;
  }) grows is.welcome;
  turn = turn_on w v key grows is.turn;
}

-- ---- what clients keep

pub record KeepTurns (w : World) : Type 0 where
  pub asked : (key : Key) (call : Call) → WasAsked w key call → IsInTurn w key
  pub idle : (client : ℕ) (next : Key) → process_of w client ≡ Some (Idle (Some next)) → IsInTurn w next
  pub started : (client incarnation : ℕ) (version : Version)
      → Contains w.to_server (message.Hello client incarnation version)
      → Contains w.started (client, incarnation)
  pub one_version : (client incarnation : ℕ) (one other : Version)
      → Contains w.to_server (message.Hello client incarnation one)
      → Contains w.to_server (message.Hello client incarnation other) → one ≡ other

-- what an event does to what they keep
record TurnsOn (w v : World) : Type 0 where
  answers_on : GoesOn w.to_client v.to_client
  asked_back : (key : Key) (call : Call) → WasAsked v key call → IsInTurn w key
  idle_back : (client : ℕ) (next : Key) → process_of v client ≡ Some (Idle (Some next)) → IsInTurn w next
  started_on : (client incarnation : ℕ) → Contains w.started (client, incarnation)
      → Contains v.started (client, incarnation)
  hellos_back : (client incarnation : ℕ) (version : Version)
      → Contains v.to_server (message.Hello client incarnation version)
      → Contains w.to_server (message.Hello client incarnation version)

turns_on : (w v : World) → KeepTurns w → TurnsOn w v → KeepTurns v
turns_on w v keep on = record {
  asked = λ key call asked. in_turn_on w v key on.answers_on (on.asked_back key call asked);
  idle = λ client next there. in_turn_on w v next on.answers_on (on.idle_back client next there);
  started = λ client incarnation version there. on.started_on client incarnation
      (keep.started client incarnation
      version (on.hellos_back client incarnation version there));
  one_version = λ client incarnation one other there also. keep.one_version client incarnation one other
      (on.hellos_back client incarnation one there) (on.hellos_back client incarnation other also);
}

-- where one process is another
idle_back : (w v : World) (client : ℕ) (process : Option Process) → KeepTurns w
    → OnlyChangesProcess w v client process
    → ((next : Key) → process ≡ Some (Idle (Some next)) → IsInTurn w next) → (other : ℕ) (next : Key)
    → process_of v other ≡ Some (Idle (Some next)) → IsInTurn w next
idle_back w v client process keep changes own other next there = elim (same_or_not other client) [
  | inl same ↦ own next (sym changes.own ∙ subst (λ (c : ℕ). process_of v c ≡ Some (Idle (Some next))) same
      there)
  | inr differ ↦ keep.idle other next (sym (changes.others other differ) ∙ there)
]

-- ---- messages that are no hello

no_request_hello : (asking : Asking) (client incarnation : ℕ) (version : Version)
    → request_of asking ≡ message.Hello client incarnation version → ⊥
no_request_hello asking client incarnation version is = cc

no_cancel_hello : (asking : Asking) (client incarnation : ℕ) (version : Version)
    → cancel_of asking ≡ message.Hello client incarnation version → ⊥
no_cancel_hello asking client incarnation version is = cc

hellos_push : (messages : List Message) (said : Message) (client incarnation : ℕ) (version : Version)
    → (said ≡ message.Hello client incarnation version → ⊥)
    → Contains (messages ++ said ∷ []) (message.Hello client incarnation version)
    → Contains messages (message.Hello client incarnation version)
hellos_push messages said client incarnation version other there = elim (Contains-push_cases messages said
    (message.Hello client incarnation version) there) [
      | inl old ↦ old
      | inr new ↦ absurd (other new)
    ]

-- a message more, that is no hello
says_turns : (w : World) (said : Message) → KeepTurns w
    → ((client incarnation : ℕ) (version : Version) → said ≡ message.Hello client incarnation version → ⊥)
    → KeepTurns (with_message w said)
says_turns w said keep other = turns_on w (with_message w said) keep (record {
  answers_on = goes_on_itself w.to_client;
  asked_back = keep.asked;
  idle_back = keep.idle;
  started_on = λ client incarnation there. there;
  hellos_back = λ client incarnation version there. hellos_push w.to_server said client incarnation version
      (other client incarnation version) there;
})

-- ---- each event

no_new_idle : (starting : Starting) (next : Key) → Some (New starting) ≡ Some (Idle (Some next)) → ⊥
no_new_idle starting next is = cc

no_outstanding_idle : (asking : Asking) (next : Key) → Some (Outstanding asking) ≡ Some (Idle (Some next)) → ⊥
no_outstanding_idle asking next is = cc

same_idle : (next : Option Key) (n : Key) → Some (Idle next) ≡ Some (Idle (Some n)) → next ≡ Some n
same_idle next n is = cc

same_hello : (c i d j : ℕ) (v u : Version) → message.Hello c i v ≡ message.Hello d j u
    → (c ≡ d) × (i ≡ j) × (v ≡ u)
same_hello c i d j v u is = (cc, cc, cc)

started_turns : (w : World) (client incarnation : ℕ) (version : Version) (clients : List (ℕ × Option Process))
    → KeepTurns w → ((earlier : ℕ) → Contains w.started (client, earlier) → earlier < incarnation)
    → let u : World = with_message (record w {
      clients = clients;
      started = w.started ++ (client, incarnation) ∷ [];
    }) (hello_of (start_of client incarnation version)) in
    OnlyChangesProcess w u client (Some (New (start_of client incarnation version))) → KeepTurns u
started_turns w client incarnation version clients keep newest only =
    let u : World = with_message (record w {
      clients = clients;
      started = w.started ++ (client, incarnation) ∷ [];
    }) (hello_of (start_of client incarnation version)) in
    let said : Message = message.Hello client incarnation version in
    let fresh : (v : Version) → Contains w.to_server (message.Hello client incarnation v) → ⊥ = λ v there.
    let less : incarnation < incarnation = newest incarnation (keep.started client incarnation v there) in
    omega arith in
    record {
      asked = λ key call asked. in_turn_on w u key (goes_on_itself w.to_client) (keep.asked key call asked);
      idle = λ other next there. in_turn_on w u next (goes_on_itself w.to_client) (idle_back w u client
          (Some (New (start_of client incarnation version))) keep only
          (λ n is. absurd (no_new_idle (start_of client
          incarnation version) n is)) other next there);
      started = λ c i v there. elim (Contains-push_cases w.to_server said (message.Hello c i v) there) [
        | inl old ↦ Contains-append_left w.started ((client, incarnation) ∷ []) (c, i)
            (keep.started c i v old)
        | inr new ↦
            let same = same_hello client incarnation c i version v new in
            subst (λ (j : ℕ). Contains (w.started ++ (client, incarnation) ∷ []) (c, j)) same.1
            (subst (λ (d : ℕ). Contains (w.started ++ (client, incarnation) ∷ []) (d, incarnation)) same.0
            (Contains-push w.started (client, incarnation)))
      ];
      one_version = λ c i one other there also. elim (Contains-push_cases w.to_server said
          (message.Hello c i one)
          there) [
            | inl old ↦ elim (Contains-push_cases w.to_server said (message.Hello c i other) also) [
              | inl older ↦ keep.one_version c i one other old older
              | inr new ↦
                  let same = same_hello client incarnation c i version other new in
                  absurd (fresh one (subst (λ (d : ℕ). Contains w.to_server (message.Hello d incarnation one))
                  (sym same.0) (subst (λ (j : ℕ). Contains w.to_server (message.Hello c j one)) (sym same.1)
                  old)))
            ]
            | inr new ↦ elim (Contains-push_cases w.to_server said (message.Hello c i other) also) [
              | inl old ↦
                  let same = same_hello client incarnation c i version one new in
                  absurd (fresh other (subst (λ (d : ℕ). Contains w.to_server (message.Hello d incarnation
                  other))
                  (sym same.0) (subst (λ (j : ℕ). Contains w.to_server (message.Hello c j other)) (sym same.1)
                  old)))
              | inr newer ↦ sym (same_hello client incarnation c i version one new).2
                  ∙ (same_hello client incarnation c i version other newer).2
            ]
          ];
    }

begun_turns : (w : World) (client : ℕ) (key : Key) (call : Call) (clients : List (ℕ × Option Process))
    → KeepTurns w → process_of w client ≡ Some (Idle (Some key))
    → let u : World = with_message (record w { clients = clients; asked = w.asked ++ (key, call) ∷ [] })
    (request_of (record { key = key; call = call })) in
    OnlyChangesProcess w u client (Some (Outstanding (record { key = key; call = call }))) → KeepTurns u
begun_turns w client key call clients keep idle only =
    let asking : Asking = record { key = key; call = call } in
    let u : World = with_message (record w { clients = clients; asked = w.asked ++ (key, call) ∷ [] })
    (request_of asking) in
    turns_on w u keep (record {
      answers_on = goes_on_itself w.to_client;
      asked_back = λ k c asked. elim (Contains-push_cases w.asked (key, call) (k, c) asked) [
        | inl old ↦ keep.asked k c old
        | inr new ↦ subst (λ (p : Key × Call). IsInTurn w p.0) new (keep.idle client key idle)
      ];
      idle_back = idle_back w u client (Some (Outstanding asking)) keep only
          (λ n is. absurd (no_outstanding_idle
          asking n is));
      started_on = λ c i there. there;
      hellos_back = λ c i v there. hellos_push w.to_server (request_of asking) c i v (no_request_hello asking
          c i v)
          there;
    })

-- only a process is another
turned_turns : (w : World) (client : ℕ) (process : Option Process) (held : List (Key × Reply))
    (clients : List (ℕ × Option Process)) → KeepTurns w
    → OnlyChangesProcess w (record w { clients = clients; held = held }) client process
    → ((next : Key) → process ≡ Some (Idle (Some next)) → IsInTurn w next)
    → KeepTurns (record w { clients = clients; held = held })
turned_turns w client process held clients keep only own =
    turns_on w (record w { clients = clients; held = held }) keep (record {
      answers_on = goes_on_itself w.to_client;
      asked_back = keep.asked;
      idle_back = idle_back w (record w { clients = clients; held = held }) client process keep only own;
      started_on = λ c i there. there;
      hellos_back = λ c i v there. there;
    })

changed_turns : (w : World) (client : ℕ) (process : Option Process) (v : World) → KeepTurns w
    → ChangesProcess w client process v → ((next : Key) → process ≡ Some (Idle (Some next)) → IsInTurn w next)
    → KeepTurns v
changed_turns w client process v keep changes own =
    subst (λ (u : World). OnlyChangesProcess w u client process → KeepTurns u) (sym changes.rest)
    (λ only. turned_turns w client process w.held v.clients keep only own) changes.changes

stays_turns : (w v : World) → KeepTurns w → v ≡ w → KeepTurns v
stays_turns w v keep same = subst KeepTurns (sym same) keep

after_is : (key n : Key) → key_after key ≡ Some n → n ≡ record key { number = key.number + 1 }
after_is key n is = by_room (nat_lt key.number max_identifier) is
  where
    by_room : (room : Bool) → (if room then Some (record key { number = key.number + 1 }) else None) ≡ Some n
        → n ≡ record key { number = key.number + 1 }
    by_room true is = sym (same_Some _ _ is)
    by_room false is = absurd (none-some n is)

module _ (w : World) (sent : Packet) (v : World) (shows : Seen) (sound : IsSoundWorld w) (keep : KeepTurns w)
    (there : Contains w.to_client sent) where
  answer_there : (x : Answer) → sent.answer ≡ x
      → Contains w.to_client (record { client = sent.client; answer = x })
  answer_there x is = subst (λ (y : Answer). Contains w.to_client (record {
    client = sent.client;
    answer =
        y;
  })) is
      there

  heard_turns : (process : Process) (outcome : Outcome) → process_of w sent.client ≡ Some process
      → Hears process sent.answer outcome → WorldBecomes w sent.client sent.answer outcome v shows
      → KeepTurns v
  heard_turns (New starting) (Welcomed next) runs hears becomes =
      changed_turns w sent.client (Some (Idle next)) v keep becomes.0 (λ n is. subst (IsInTurn w)
      (same_Some _ _
      (sym hears.2 ∙ same_idle next n is)) (record {
        client = sent.client;
        version = starting.version;
        welcome = answer_there (answers.Welcome hears.0 starting.client starting.incarnation starting.version)
            hears.1;
        turn = inl refl;
      }))
  heard_turns (New starting) (TurnedAway same refusal) runs hears becomes =
      changed_turns w sent.client (Some (New same)) v keep becomes.0 (λ n is. absurd (no_new_idle same n is))
  heard_turns (Outstanding asking) (Settled next reply) runs hears becomes =
      let key : Key = asking.key in
      let owed = sound.processes sent.client (Outstanding asking) runs in
      let turn : IsInTurn w key = keep.asked key asking.call owed.asked in
      subst (λ (u : World). OnlyChangesProcess w u sent.client (Some (Idle next)) → KeepTurns u)
      (sym becomes.rest)
      (λ only. turned_turns w sent.client (Some (Idle next)) (w.held ++ (becomes.key, reply) ∷ []) v.clients
      keep only
      (λ n is. subst (IsInTurn w) (sym (after_is key n (sym hears.1 ∙ same_idle next n is))) (record {
        client = turn.client;
        version = turn.version;
        welcome = turn.welcome;
        turn = inr (record {
          key_before = key;
          told = reply;
          answered = (sent.client, answer_there (answers.Replied key reply) hears.0);
          epoch_is = refl;
          client_is = refl;
          incarnation_is = refl;
          number_is = refl;
        });
      }))) becomes.changes
  heard_turns process (EpochEnded key current) runs hears becomes =
      changed_turns w sent.client None v keep becomes.0 (λ n is. absurd (none-some (Idle (Some n)) is))
  heard_turns process (Replaced key current) runs hears becomes =
      changed_turns w sent.client None v keep becomes.0 (λ n is. absurd (none-some (Idle (Some n)) is))
  heard_turns process (Ignored same) runs hears becomes = stays_turns w v keep becomes.0
  heard_turns process outcome runs hears becomes = absurd hears

  comes_turns : (process : Option Process) → process_of w sent.client ≡ process
      → ComesTo process w sent v shows
      → KeepTurns v
  comes_turns None runs comes = stays_turns w v keep comes.0
  comes_turns (Some process) runs comes = heard_turns process comes.outcome runs comes.hears comes.becomes

pub steps_turns : (w : World) (e : Event) (v : World) (shows : Seen) → IsSoundWorld w → KeepTurns w
    → ((packet moment : ℕ) → e ≡ event.ToServer packet moment → ⊥) → Steps w e v shows → KeepTurns v
steps_turns w (event.Start client incarnation version) v shows sound keep none is =
    subst (λ (u : World). OnlyChangesProcess w u client (Some (New (start_of client incarnation version)))
    → KeepTurns u) (sym is.rest) (started_turns w client incarnation version v.clients keep is.newest)
    is.changes
steps_turns w (event.Begin client call) v shows sound keep none is =
    subst (λ (u : World). OnlyChangesProcess w u client
    (Some (Outstanding (record { key = is.key; call = call })))
    → KeepTurns u) (sym is.rest) (begun_turns w client is.key call v.clients keep is.idle) is.changes
steps_turns w (event.Resend client) v shows sound keep none is = subst KeepTurns (sym is.after) (says_turns w
    (request_of is.asking) keep (no_request_hello is.asking))
steps_turns w (event.CancelSent client) v shows sound keep none is = subst KeepTurns (sym is.after)
    (says_turns w
    (cancel_of is.asking) keep (no_cancel_hello is.asking))
steps_turns w (event.Crash client) v shows sound keep none is = changed_turns w client None v keep is.ends
    (λ n same. absurd (none-some (Idle (Some n)) same))
steps_turns w (event.ToServer packet moment) v shows sound keep none is = absurd (none packet moment refl)
steps_turns w (event.ToClient packet) v shows sound keep none is =
    comes_turns w is.sent v shows sound keep (stands_at w.to_client packet is.sent is.there)
    (process_of w is.sent.client) refl is.comes
steps_turns w (event.NewEpoch epoch) v shows sound keep none is = subst KeepTurns (sym is.after)
    (turns_on w (record w {
      earlier = accounts w;
      present = empty_account epoch;
    }) keep (record {
      answers_on = goes_on_itself w.to_client;
      asked_back = keep.asked;
      idle_back = keep.idle;
      started_on = λ c i there. there;
      hellos_back = λ c i v there. there;
    }))

-- ---- the first world, another account, and answers more

nothing_there : {X : Type 0} (x : X) → Contains [] x → ⊥
nothing_there x there = let inside : there.0 < 0 = there.1 in omega arith

pub first_turns : (epoch : ℕ) → KeepTurns (first_world epoch)
first_turns epoch = record {
  asked = λ key call asked. absurd (nothing_there (key, call) asked);
  idle = λ client next there. absurd (none-some (Idle (Some next)) there);
  started = λ client incarnation version there. absurd (nothing_there (message.Hello client incarnation
      version)
      there);
  one_version = λ client incarnation one other there also. absurd
      (nothing_there (message.Hello client incarnation
      one) there);
}

pub turns_at : (w : World) (a : Account) → KeepTurns w → KeepTurns (record w { present = a })
turns_at w a keep = turns_on w (record w { present = a }) keep (record {
  answers_on = goes_on_itself w.to_client;
  asked_back = keep.asked;
  idle_back = keep.idle;
  started_on = λ c i there. there;
  hellos_back = λ c i v there. there;
})

pub turns_sent : (w : World) (more : List Packet) → KeepTurns w
    → KeepTurns (record w { to_client = w.to_client ++ more })
turns_sent w more keep = turns_on w (record w { to_client = w.to_client ++ more }) keep (record {
  answers_on = goes_on w.to_client more;
  asked_back = keep.asked;
  idle_back = keep.idle;
  started_on = λ c i there. there;
  hellos_back = λ c i v there. there;
})
