-- What stays around a server: the world with what is stored stays sound where clients and the link do
-- something, where an answer is sent, and where more is stored.
use Rattle.rv_world.proofs.OfParts.Words.{◌≡◌, ◌++◌, ◌∷◌, ◌∙◌, inl, inr, ℕ, List, [], Option, Some, None}
use Rattle.rv_world.proofs.OfParts.Words.{length, refl, sym, ap, subst, Contains, Contains-push}
use Rattle.rv_world.proofs.OfParts.Words.{Contains-push_cases, Account, Answer, Call, Key, Legal, Message}
use Rattle.rv_world.proofs.OfParts.Words.{NextUnder, Reply, Process, Outcome, Welcomed, TurnedAway, Settled}
use Rattle.rv_world.proofs.OfParts.Words.{EpochEnded, Replaced, Ignored, book_limits, World, ComesTo}
use Rattle.rv_world.proofs.OfParts.Words.{IsSoundWorld, OnlyGrows, Steps, WorldBecomes, accounts, cancel_of}
use Rattle.rv_world.proofs.OfParts.Words.{hello_of, process_of, request_of, start_of, with_message}
use Rattle.rv_text.specs.declared.answer.Answer.TheVariants as answers
use Rattle.rv_text.specs.declared.answer.Refusal.TheVariants as refusals
use Rattle.rv_text.specs.declared.message.Message.TheVariants as message
use Rattle.rv_account.specs.Account.{Extends}
use Rattle.rv_account.specs.declared.entry.Act.TheVariants.{Arrive}
use Rattle.rv_account.specs.rules.Legal.{before}
use Rattle.rv_account.proofs.OfRules.Fronts.{Legal-before, read_whole}
use Rattle.rv_account.proofs.OfRules.Growing.{act_read}
use Rattle.rv_account.proofs.OfState.Extending.{extends_itself}
use Rattle.rv_book.proofs.Staying.{replies_stay}
use Rattle.rv_world.specs.declared.parts.event.Event.{Event}
use Rattle.rv_world.specs.declared.parts.packet.Packet.{Packet}
use Rattle.rv_world.specs.declared.parts.seen.Seen.{Seen}
use Rattle.rv_world.specs.declared.parts.event.Event.TheVariants as event
use Rattle.rv_world.specs.parts.Headline.{ArrivesAt, GoesOn}
use Rattle.rv_world.proofs.OfParts.Answered.{IsToldReply, next_told}
use Rattle.rv_world.proofs.OfParts.Epochs.{IsLegalIn}
use Rattle.rv_world.proofs.OfParts.Growth.{goes_on, goes_on_itself, present_grows}
use Rattle.rv_world.proofs.OfParts.OneReply.{IsNewReply}
use Rattle.rv_world.proofs.OfParts.Soundness.{asked_by, goes_on_sound, step_sound}
use Rattle.rv_store.specs.servers.crashes.Crashes.{CrashWorld, LeavesServer, Server, made, stored_world}
use Rattle.rv_store.specs.servers.crashes.Laws.{IsHeldRightly, IsHeldStep, IsServer, KeepsServer}
use Rattle.rv_store.proofs.OfServers.OfCrashes.Fronts.{extends_front, made_extends, stored_front}

-- ---- clients and the link leave the account, and what was answered

-- the answers stay, and so does the present account; of messages there may be more
pub record IsQuiet (w v : World) : Type 0 where
  pub answers_stay : v.to_client ≡ w.to_client
  pub account_stays : v.present ≡ w.present
  pub messages : GoesOn w.to_server v.to_server

quiet_by : (w u v : World) → v ≡ u → IsQuiet w u → IsQuiet w v
quiet_by w u v same is = subst (IsQuiet w) (sym same) is

quiet_itself : (w : World) → IsQuiet w w
quiet_itself w =
    record { answers_stay = refl; account_stays = refl; messages = goes_on_itself w.to_server }

says_quiet : (w : World) (said : Message) → IsQuiet w (with_message w said)
says_quiet w said =
    record { answers_stay = refl; account_stays = refl; messages = goes_on w.to_server (said ∷ []) }

-- where other parts alone change
rest_quiet : (w u : World) → u.to_client ≡ w.to_client → u.present ≡ w.present → u.to_server ≡ w.to_server
    → IsQuiet w u
rest_quiet w u answers_stay account_stays messages = record {
  answers_stay = answers_stay;
  account_stays = account_stays;
  messages = subst (GoesOn w.to_server) (sym messages) (goes_on_itself w.to_server);
}

becomes_quiet : (w : World) (client : ℕ) (answer : Answer) (outcome : Outcome) (v : World) (shows : Seen)
    → WorldBecomes w client answer outcome v shows → IsQuiet w v
becomes_quiet w client answer (Welcomed next) v shows is = quiet_by w (record w { clients = v.clients }) v
    is.0.rest
    (rest_quiet w (record w { clients = v.clients }) refl refl refl)
becomes_quiet w client answer (TurnedAway same refusal) v shows is =
    quiet_by w (record w { clients = v.clients }) v
    is.0.rest (rest_quiet w (record w { clients = v.clients }) refl refl refl)
becomes_quiet w client answer (Settled next reply) v shows is =
    let u : World = record w { clients = v.clients; held = w.held ++ (is.key, reply) ∷ [] } in
    quiet_by w u v is.rest (rest_quiet w u refl refl refl)
becomes_quiet w client answer (EpochEnded key current) v shows is =
    quiet_by w (record w { clients = v.clients }) v
    is.0.rest (rest_quiet w (record w { clients = v.clients }) refl refl refl)
becomes_quiet w client answer (Replaced key current) v shows is =
    quiet_by w (record w { clients = v.clients }) v
    is.0.rest (rest_quiet w (record w { clients = v.clients }) refl refl refl)
becomes_quiet w client answer (Ignored same) v shows is = quiet_by w w v is.0 (quiet_itself w)

comes_quiet : (process : Option Process) (w : World) (packet : Packet) (v : World) (shows : Seen)
    → ComesTo process w packet v shows → IsQuiet w v
comes_quiet None w packet v shows is = quiet_by w w v is.0 (quiet_itself w)
comes_quiet (Some process) w packet v shows is =
    becomes_quiet w packet.client packet.answer is.outcome v shows is.becomes

-- the answers stay, and what the server that is left has stored is the present account
pub record IsOutside (w v : World) (t : Server) : Type 0 where
  pub answers_stay : v.to_client ≡ w.to_client
  pub account_is : t.stored ≡ v.present
  pub messages : GoesOn w.to_server v.to_server

-- the server stays
outside_by : (c : CrashWorld) (v : World) (t : Server) → IsQuiet (stored_world c) v → t ≡ c.server
    → IsOutside (stored_world c) v t
outside_by c v t quiet same = record {
  answers_stay = quiet.answers_stay;
  account_is = ap (λ (u : Server). u.stored) same ∙ sym quiet.account_stays;
  messages = quiet.messages;
}

pub outside_is : (c : CrashWorld) (e : Event) (v : World) (shows : Seen) (t : Server)
    → Steps (stored_world c) e v shows → LeavesServer e c.server t → IsOutside (stored_world c) v t
outside_is c (event.Start client incarnation version) v shows t is same =
    let w : World = stored_world c in
    let u : World = record w { clients = v.clients; started = w.started ++ (client, incarnation) ∷ [] } in
    let said : Message = hello_of (start_of client incarnation version) in
    outside_by c v t (quiet_by w (with_message u said) v is.rest (record {
      answers_stay = refl;
      account_stays = refl;
      messages = goes_on w.to_server (said ∷ []);
    })) same
outside_is c (event.Begin client call) v shows t is same =
    let w : World = stored_world c in
    let u : World = record w { clients = v.clients; asked = w.asked ++ (is.key, call) ∷ [] } in
    let said : Message = request_of (record { key = is.key; call = call }) in
    outside_by c v t (quiet_by w (with_message u said) v is.rest (record {
      answers_stay = refl;
      account_stays = refl;
      messages = goes_on w.to_server (said ∷ []);
    })) same
outside_is c (event.Resend client) v shows t is same =
    let w : World = stored_world c in
    outside_by c v t (quiet_by w (with_message w (request_of is.asking)) v is.after (says_quiet w (request_of
    is.asking))) same
outside_is c (event.CancelSent client) v shows t is same =
    let w : World = stored_world c in
    outside_by c v t (quiet_by w (with_message w (cancel_of is.asking)) v is.after (says_quiet w (cancel_of
    is.asking))) same
outside_is c (event.Crash client) v shows t is same =
    let w : World = stored_world c in
    let u : World = record w { clients = v.clients } in
    outside_by c v t (quiet_by w u v is.ends.rest (rest_quiet w u refl refl refl)) same
outside_is c (event.ToServer packet moment) v shows t is none = absurd none
outside_is c (event.ToClient packet) v shows t is same =
    outside_by c v t (comes_quiet (process_of (stored_world c) is.sent.client) (stored_world c) is.sent v
    shows
    is.comes) same
outside_is c (event.NewEpoch epoch) v shows t is new = record {
  answers_stay = ap (λ (u : World). u.to_client) is.after;
  account_is = ap (λ (u : Server). u.stored) new ∙ sym (ap (λ (u : World). u.present) is.after);
  messages = subst (λ (u : World). GoesOn c.around.to_server u.to_server) (sym is.after) (goes_on_itself
      c.around.to_server);
}

pub outside_sound : (c : CrashWorld) (e : Event) (v : World) (shows : Seen) (t : Server)
    → IsSoundWorld (stored_world c) → Steps (stored_world c) e v shows → IsOutside (stored_world c) v t
    → IsSoundWorld (record v { present = t.stored })
outside_sound c e v shows t sound is outside =
    subst (λ (a : Account). IsSoundWorld (record v { present = a })) (sym outside.account_is)
    (step_sound book_limits (stored_world c) e v shows sound is)

-- ---- an answer is sent

refused_no_reply : (key : Key) (told : Reply)
    → ◌≡◌ {A = Answer} (answers.Refused refusals.NoMemory) (answers.Replied key told) → ⊥
refused_no_reply key told is = cc

-- the reply of a step between fronts of the present account is that of its key there
replies_there : (w : World) (sent : List Packet) (packet : Packet) (count : ℕ) (key : Key) (reply : Reply)
    → IsSoundWorld w → IsHeldStep w.to_server w.present packet count
    → packet.answer ≡ answers.Replied key reply
    → IsNewReply (record w { to_client = sent }) key reply
replies_there w sent packet count key reply sound step says = elim step.is_told [
  | inr none ↦ absurd (refused_no_reply key reply (sym none.1 ∙ says))
  | inl same ↦
      let front : Account = before w.present count in
      let there : Contains (accounts w) w.present = Contains-push w.earlier w.present in
      let legal : Legal w.present = sound.legal_accounts.legal w.present there in
      let told : IsToldReply step.message front key reply = next_told step.limits
      (before w.present step.early)
      front step.moment step.message key reply (subst (NextUnder step.limits (before w.present step.early)
      step.moment step.message front) (sym same ∙ says) step.next) in
      let call = asked_by w step.message front key reply (sound.accounted.messages step.message step.sent)
      told in
      record {
        call = call.0;
        asked = call.1;
        is_of = record {
          account = w.present;
          is_of = record { is_there = there; epoch_is = sym told.epoch };
          has = (replies_stay front w.present key reply (Legal-before w.present count legal) legal
              (extends_front w.present count) told.has).0;
        };
      }
]

pub sends_grow : (w : World) (packet : Packet)
    → OnlyGrows w (record w { to_client = w.to_client ++ packet ∷ [] })
sends_grow w packet = present_grows w w.present (w.to_client ++ packet ∷ []) (extends_itself w.present)
    (goes_on w.to_client (packet ∷ []))

pub sends_sound : (w : World) (packet : Packet) (count : ℕ) → IsSoundWorld w
    → IsHeldRightly w.to_server w.present packet count
    → IsSoundWorld (record w { to_client = w.to_client ++ packet ∷ [] })
sends_sound w packet count sound right =
    let sent : List Packet = w.to_client ++ packet ∷ [] in
    let there : Contains (accounts w) w.present = Contains-push w.earlier w.present in
    let own : IsLegalIn (record w { to_client = sent }) w.present = record {
      legal = sound.legal_accounts.legal w.present there;
      asked = λ r key call arrived. sound.legal_accounts.arrivals_asked w.present r key call there arrived;
    } in
    goes_on_sound w w.present sent sound (extends_itself w.present) own (λ key reply answered.
    elim (Contains-push_cases w.to_client packet (record {
      client = answered.0;
      answer = answers.Replied key reply;
    }) answered.1) [
      | inl old ↦ inl (answered.0, old)
      | inr new ↦ inr (new_reply key reply (ap (λ (p : Packet). p.answer) new))
    ]) (sends_grow w packet)
  where
    new_reply : (key : Key) (reply : Reply) → packet.answer ≡ answers.Replied key reply
        → IsNewReply (record w { to_client = w.to_client ++ packet ∷ [] }) key reply
    new_reply key reply says = elim right [
      | inl none ↦ absurd (refused_no_reply key reply (sym none ∙ says))
      | inr step ↦ replies_there w (w.to_client ++ packet ∷ []) packet count key reply sound step says
    ]

-- ---- what is stored, and what is made

-- an account that the present one goes on to, whose arrivals came by messages that were sent
goes_on_stored : (w : World) (a : Account) → IsSoundWorld w → Extends w.present a → Legal a
    → ((r : ℕ) (key : Key) (call : Call) → ArrivesAt a.entries key r call
    → Contains w.to_server (message.Request key call))
    → IsSoundWorld (record w { present = a }) × OnlyGrows w (record w { present = a })
goes_on_stored w a sound extends legal arrivals =
    let own : IsLegalIn (record w { present = a }) a = record {
      legal = legal;
      asked = λ r key call arrived. sound.accounted.messages (message.Request key call) (arrivals r key call
          arrived);
    } in
    let grows : OnlyGrows w (record w { present = a }) = present_grows w a w.to_client extends (goes_on_itself
    w.to_client) in
    (goes_on_sound w a w.to_client sound extends own (λ key reply answered. inl answered) grows, grows)

pub stored_sound : (c : CrashWorld) (t : Server) → IsSoundWorld (stored_world c)
    → KeepsServer c.around.to_server c.server t
    → IsSoundWorld (record c.around { present = t.stored })
    × OnlyGrows (stored_world c) (record c.around { present = t.stored })
stored_sound c t sound keeps =
    let count : ℕ = length t.stored.entries in
    goes_on_stored (stored_world c) t.stored sound keeps.stored (subst Legal (stored_front t)
    (Legal-before (made t)
    count keeps.server.legal)) (λ r key call arrived. keeps.server.arrivals r key call
    (read_whole act_read refl
    (made t).entries count r (Arrive key call) (subst (λ (a : Account). ArrivesAt a.entries key r call)
    (sym (stored_front t)) arrived)).1)

pub made_sound : (c : CrashWorld) → IsSoundWorld (stored_world c) → IsServer c.around.to_server c.server
    → IsSoundWorld (record c.around { present = made c.server })
    × OnlyGrows (stored_world c) (record c.around { present = made c.server })
made_sound c sound server =
    goes_on_stored (stored_world c) (made c.server) sound (made_extends c.server) server.legal server.arrivals
