-- All that a world hands on is within the limits after every list of events that are.
use Rattle.rv_world.proofs.OfParts.Words.{◌≡◌, ◌+◌, ◌<◌, ◌≤◌, ◌∷◌, ◌++◌, ◌∙◌, inl, inr, ℕ, List, [], Bool}
use Rattle.rv_world.proofs.OfParts.Words.{true, false, Option, Some, None, refl, sym, subst, arith, Contains}
use Rattle.rv_world.proofs.OfParts.Words.{Contains-append_left, Contains-push, Contains-push_cases, none-some}
use Rattle.rv_world.proofs.OfParts.Words.{same_Some, Key, Message, Answer, Legal, same_or_not, Process, New}
use Rattle.rv_world.proofs.OfParts.Words.{Idle, Outstanding, Starting, cancel_of, first_key, hello_of}
use Rattle.rv_world.proofs.OfParts.Words.{key_after, request_of, Hears, Outcome, Welcomed, TurnedAway}
use Rattle.rv_world.proofs.OfParts.Words.{Settled, EpochEnded, Replaced, Ignored, Event, Packet, Seen, World}
use Rattle.rv_world.proofs.OfParts.Words.{accounts, empty_account, first_world, process_of, ChangesProcess}
use Rattle.rv_world.proofs.OfParts.Words.{ComesTo, OnlyChangesProcess, Steps, WorldBecomes, sender}
use Rattle.rv_world.proofs.OfParts.Words.{with_message, start_of, AllFits}
use Rattle.std.specs.Prelude.{if◌then◌else◌, nat_lt}
use Rattle.std.proofs.lemmas.Bool.{ltb-true}
use Rattle.rv_text.specs.Limits.{FitsAnswer, FitsIdentifier, FitsKey, FitsMessage}
use Rattle.rv_book.specs.Limits.{FitsAccount}
use Rattle.rv_book.specs.Waiting.{Waiting}
use Rattle.rv_account.proofs.OfRules.Counting.{number_below}
use Rattle.rv_account.proofs.OfRules.FewClients.{few_none}
use Rattle.rv_account.proofs.OfRules.WaitingBehind.{waiting_below}
use Rattle.rv_account.specs.rules.StepLimits.{max_clients}
use Rattle.rv_text.specs.Members.{max_identifier}
use Rattle.rv_world.specs.parts.Events.{IsTold, ReachesServer}
use Rattle.rv_world.specs.parts.Limits.{FitsEvent}
use Rattle.rv_world.specs.parts.Sound.{FitsProcess}
use Rattle.rv_world.proofs.OfParts.Listing.{stands_at}
use Rattle.rv_world.proofs.OfParts.Roomy.{next_fits}
use Rattle.rv_text.specs.declared.answer.Answer.TheVariants as answers
use Rattle.rv_world.specs.declared.parts.event.Event.TheVariants as event

-- ---- lists and tables

-- with one more that has a property
all_push : {X : Type 0} (P : X → Type 0) (list : List X) (new : X) → ((x : X) → Contains list x → P x) → P new
    → (x : X) → Contains (list ++ new ∷ []) x → P x
all_push P list new each here x there = elim (Contains-push_cases list new x there) [
  | inl before ↦ each x
      before
  | inr is ↦ subst P is here
]

abbrev ProcessesFit : World → Type 0
ProcessesFit w = (client : ℕ) (process : Process) → process_of w client ≡ Some process → FitsProcess process

turned_fit : (w v : World) (client : ℕ) (process : Option Process) → ProcessesFit w
    → OnlyChangesProcess w v client process
    → ((turned : Process) → process ≡ Some turned → FitsProcess turned) → ProcessesFit v
turned_fit w v client process fit changes turned other is there = elim (same_or_not other client) [
  | inl equal ↦ turned is (sym changes.own ∙ subst (λ c. process_of v c ≡ Some is) equal there)
  | inr differ ↦ fit other is (sym (changes.others other differ) ∙ there)
]

-- ---- what a client hears

first_key_fits : (starting : Starting) (epoch : ℕ) → FitsProcess (New starting) → FitsIdentifier epoch
    → FitsKey (first_key starting epoch)
first_key_fits starting epoch fits epoch_fits = (epoch_fits, fits.0, fits.1, (omega arith, omega arith))

after_fits : (key : Key) → FitsKey key → FitsProcess (Idle (key_after key))
after_fits key fits = by_room (nat_lt key.number max_identifier) refl
  where
    next : Key
    next = record key { number = key.number + 1 }

    by_room : (room : Bool) → nat_lt key.number max_identifier ≡ room
        → FitsProcess (Idle (if room then Some next else None))
    by_room true is =
        let less : key.number < max_identifier = ltb-true key.number max_identifier is in
        (fits.0, fits.1, fits.2, (omega arith, omega arith))
    by_room false is = tt

turns_fit : (w : World) (client : ℕ) (process : Option Process) (v : World) → AllFits w
    → ChangesProcess w client process v → ((turned : Process) → process ≡ Some turned → FitsProcess turned)
    → AllFits v
turns_fit w client process v fits changes turned =
    let processes = turned_fit w v client process fits.processes changes.changes turned in
    subst (λ (u : World). ProcessesFit u → AllFits u) (sym changes.rest)
    (λ own. record {
      accounts_fit = fits.accounts_fit;
      messages = fits.messages;
      answers = fits.answers;
      processes = own;
    }) processes

module _ (w : World) (client : ℕ) (answer : Answer) (v : World) (shows : Seen) (fits : AllFits w)
    (answer_fits : FitsAnswer answer) where
  heard_fits : (process : Process) (outcome : Outcome) → process_of w client ≡ Some process
      → Hears process answer outcome → WorldBecomes w client answer outcome v shows → AllFits v
  heard_fits (New starting) (Welcomed next) there hears becomes =
      let welcome : FitsAnswer (answers.Welcome hears.0 starting.client starting.incarnation
      starting.version) = subst FitsAnswer hears.1 answer_fits in
      let own = first_key_fits starting hears.0 (fits.processes client (New starting) there) welcome.0 in
      turns_fit w client _ v fits becomes.0 (λ p is. subst FitsProcess (same_Some _ _ is)
      (subst (λ o. FitsProcess (Idle o)) (sym hears.2) own))
  heard_fits (New starting) (TurnedAway same refusal) there hears becomes =
      turns_fit w client _ v fits becomes.0 (λ p is. subst FitsProcess (same_Some _ _ is)
      (subst (λ s. FitsProcess (New s)) (sym hears.1) (fits.processes client (New starting) there)))
  heard_fits (Outstanding asking) (Settled next reply) there hears becomes =
      let key_fits = fits.processes client (Outstanding asking) there in
      let own : FitsProcess (Idle next) = subst (λ o. FitsProcess (Idle o)) (sym hears.1)
      (after_fits asking.key key_fits.0) in
      let processes = turned_fit w v client _ fits.processes becomes.changes (λ p is. subst FitsProcess
      (same_Some _ _ is) own) in
      subst (λ (u : World). ProcessesFit u → AllFits u) (sym becomes.rest)
      (λ own. record {
        accounts_fit = fits.accounts_fit;
        messages = fits.messages;
        answers = fits.answers;
        processes = own;
      }) processes
  heard_fits process (EpochEnded key current) there hears becomes = turns_fit w client None v fits becomes.0
      (λ p is. absurd (none-some p is))
  heard_fits process (Replaced key current) there hears becomes = turns_fit w client None v fits becomes.0
      (λ p is. absurd (none-some p is))
  heard_fits process (Ignored same) there hears becomes = subst AllFits (sym becomes.0) fits
  heard_fits process outcome there hears becomes = absurd hears

comes_fit : (w : World) (sent : Packet) (process : Option Process) (v : World) (shows : Seen) → AllFits w
    → Contains w.to_client sent → process_of w sent.client ≡ process
    → ComesTo process w sent v shows → AllFits v
comes_fit w sent None v shows fits there runs comes = subst AllFits (sym comes.0) fits
comes_fit w sent (Some process) v shows fits there runs comes = heard_fits w sent.client sent.answer v shows
    fits (fits.answers sent there) process comes.outcome runs comes.hears comes.becomes

-- ---- a message comes to the server

told_fits : (said told : Answer) → IsTold said told → FitsAnswer said → FitsAnswer told
told_fits said told (inl same) fits = subst FitsAnswer (sym same) fits
told_fits said told (inr none) fits = subst FitsAnswer (sym none.1) tt

reached_fits : (w : World) (packet moment : ℕ) (v : World) (shows : Seen) → Legal w.present → AllFits w
    → ReachesServer w packet moment v shows → AllFits v
reached_fits w packet moment v shows legal fits is =
    let answer : Packet = record { client = sender is.message; answer = is.told } in
    let message_fits = fits.messages is.message (stands_at w.to_server packet is.message is.there) in
    let after = next_fits w.present v.present moment is.message is.said legal (fits.accounts_fit w.present
    (Contains-push w.earlier w.present)) message_fits is.next in
    subst AllFits (sym is.rest) (record {
      accounts_fit = all_push FitsAccount w.earlier v.present (λ a there. fits.accounts_fit a
          (Contains-append_left w.earlier (w.present ∷ []) a there)) after.0;
      messages = fits.messages;
      answers = all_push (λ (p : Packet). FitsAnswer p.answer) w.to_client answer fits.answers
          (told_fits is.said is.told is.is_told after.1);
      processes = fits.processes;
    })

-- ---- a server starts

empty_fits : (epoch : ℕ) → FitsIdentifier epoch → FitsAccount (empty_account epoch)
empty_fits epoch fits = record {
  epoch = fits;
  opened = omega arith;
  entries = λ r e there. absurd (none-some e there);
  room = λ n count. let none : n ≤ 0 = number_below (Waiting []) n 0 (waiting_below []) count in omega arith;
  clients = few_none max_clients [] refl;
}

nothing_there : {X : Type 0} (x : X) → Contains [] x → ⊥
nothing_there x there = let inside : there.0 < 0 = there.1 in omega arith

pub first_fits : (epoch : ℕ) → FitsIdentifier epoch → AllFits (first_world epoch)
first_fits epoch fits = record {
  accounts_fit = all_push FitsAccount [] (empty_account epoch) (λ a there. absurd (nothing_there a there))
      (empty_fits epoch fits);
  messages = λ m there. absurd (nothing_there m there);
  answers = λ p there. absurd (nothing_there p there);
  processes = λ client process there. absurd (none-some process there);
}

-- ---- one event

-- a message more, and processes that fit
says_fit : (w v : World) (said : Message) → AllFits w → FitsMessage said
    → v.to_server ≡ w.to_server ++ said ∷ [] → accounts v ≡ accounts w → v.to_client ≡ w.to_client
    → ProcessesFit v → AllFits v
says_fit w v said fits said_fits sent same answered processes = record {
  accounts_fit = λ a there. fits.accounts_fit a (subst (λ list. Contains list a) same there);
  messages = λ m there. all_push FitsMessage w.to_server said fits.messages said_fits m
      (subst (λ list. Contains list m) sent there);
  answers = λ p there. fits.answers p (subst (λ list. Contains list p) answered there);
  processes = processes;
}

pub step_fits : (w : World) (e : Event) (v : World) (shows : Seen) → Legal w.present → AllFits w → FitsEvent e
    → Steps w e v shows → AllFits v
step_fits w (event.Start client incarnation version) v shows legal fits event_fits is =
    let processes = turned_fit w v client _ fits.processes is.changes (λ p same. subst FitsProcess
    (same_Some _ _ same) event_fits) in
    subst (λ (u : World). ProcessesFit u → AllFits u) (sym is.rest)
    (says_fit w _ (hello_of (start_of client incarnation version)) fits event_fits refl refl refl)
    processes
step_fits w (event.Begin client call) v shows legal fits event_fits is =
    let asking : FitsMessage (request_of (record { key = is.key; call = call })) =
    (fits.processes client (Idle (Some is.key)) is.idle, event_fits.1) in
    let processes = turned_fit w v client _ fits.processes is.changes (λ p same. subst FitsProcess
    (same_Some _ _ same) asking) in
    subst (λ (u : World). ProcessesFit u → AllFits u) (sym is.rest)
    (says_fit w _ (request_of (record { key = is.key; call = call })) fits asking refl refl refl)
    processes
step_fits w (event.Resend client) v shows legal fits event_fits is =
    let asking = fits.processes client (Outstanding is.asking) is.outstanding in
    subst AllFits (sym is.after) (says_fit w (with_message w (request_of is.asking)) (request_of is.asking)
    fits asking refl refl refl fits.processes)
step_fits w (event.CancelSent client) v shows legal fits event_fits is =
    let asking = fits.processes client (Outstanding is.asking) is.outstanding in
    subst AllFits (sym is.after) (says_fit w (with_message w (cancel_of is.asking)) (cancel_of is.asking) fits
    asking.0 refl refl refl fits.processes)
step_fits w (event.Crash client) v shows legal fits event_fits is = turns_fit w client None v fits is.ends
    (λ p none. absurd (none-some p none))
step_fits w (event.ToServer packet moment) v shows legal fits event_fits is = reached_fits w packet moment v
    shows legal fits is
step_fits w (event.ToClient packet) v shows legal fits event_fits is =
    comes_fit w is.sent (process_of w is.sent.client) v shows fits (stands_at w.to_client packet is.sent
    is.there) refl is.comes
step_fits w (event.NewEpoch epoch) v shows legal fits event_fits is =
    subst AllFits (sym is.after) (record {
      accounts_fit = all_push FitsAccount (accounts w) (empty_account epoch) fits.accounts_fit
          (empty_fits epoch event_fits);
      messages = fits.messages;
      answers = fits.answers;
      processes = fits.processes;
    })
