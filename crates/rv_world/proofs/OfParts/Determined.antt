-- What comes of an event is one thing, want of memory aside, and so is what comes of whatever happens.
use Rattle.rv_world.proofs.OfParts.Words.{◌≡◌, ◌≢◌, ◌⊎◌, ◌<◌, ◌≤◌, ◌∷◌, ◌++◌, ◌∙◌, inl, inr, ℕ, List, []}
use Rattle.rv_world.proofs.OfParts.Words.{Option, Some, None, Result, Ok, Err, nat_eq, refl, sym, ap, subst}
use Rattle.rv_world.proofs.OfParts.Words.{arith, option_and_then, Contains, lookup, Contains-push, none-some}
use Rattle.rv_world.proofs.OfParts.Words.{same_Some, Version, Key, Message, Call, Answer, Reply, Account}
use Rattle.rv_world.proofs.OfParts.Words.{StepLimits, NextUnder, Process, Idle, Outstanding, Asking}
use Rattle.rv_world.proofs.OfParts.Words.{cancel_of, hello_of, request_of, Outcome, Welcomed, TurnedAway}
use Rattle.rv_world.proofs.OfParts.Words.{Settled, EpochEnded, Replaced, Ignored, Event, Packet, Seen}
use Rattle.rv_world.proofs.OfParts.Words.{WorldRefusal, World, accounts, empty_account, process_of}
use Rattle.rv_world.proofs.OfParts.Words.{WorldBecomes, ComesTo, RefusalDue, IsAsking, OnlyChangesProcess}
use Rattle.rv_world.proofs.OfParts.Words.{RunsBut, RunsNone, ProcessSays, StepsUnder, ChangesProcess, sender}
use Rattle.rv_world.proofs.OfParts.Words.{with_message, start_of, Elapses, Happening, Happens, RunsAnyhow}
use Rattle.rv_world.proofs.OfParts.Words.{TimePasses, Under, by_a_book}
use Rattle.std.specs.Prelude.{slice_get}
use Rattle.std.proofs.lemmas.Bool.{cases_eq}
use Rattle.rv_account.proofs.OfState.OneStep.{one_next_under, one_ticked}
use Rattle.rv_client.specs.Process.{Settles}
use Rattle.rv_client.proofs.OneOutcome.{one_outcome}
use Rattle.rv_world.specs.parts.Events.{Begins, Crashes, EventComesToUnder, IsReady, IsEventRefused}
use Rattle.rv_world.specs.parts.Events.{OpensEpoch, ReachesClient, ReachesServerUnder, Starts, Takes}
use Rattle.rv_world.specs.parts.Laws.{AreSame, HadMemory, NeverLacked, OneRun, OneRunAnyhow, OneStepUnder}
use Rattle.rv_world.specs.parts.Laws.{SentNoMemory}
use Rattle.rv_world.proofs.OfParts.AsHappenings.{runs_happen}
use Rattle.rv_world.proofs.OfParts.Growth.{runs_grow_anyhow}
use Rattle.rv_world.proofs.OfParts.Listing.{still_contains}
use Rattle.rv_world.proofs.OfParts.Refused.{start_due}
use Rattle.rv_text.specs.declared.answer.Answer.TheVariants as answers
use Rattle.rv_text.specs.declared.answer.Refusal.TheVariants as refusals
use Rattle.rv_world.specs.declared.parts.event.Event.TheVariants as event
use Rattle.rv_world.specs.declared.parts.seen.Seen.TheVariants as sees

abbrev Clients : Type 0
Clients = List (ℕ × Option Process)

-- the same world, with clients that are listed so
abbrev listed : World → Clients → World
listed w clients = record w { clients = clients }

abbrev Agree : World → World → Type 0
Agree w x = (client : ℕ) → process_of w client ≡ process_of x client

abbrev Same : World → World → Seen → Seen → Type 0
Same u v s t = AreSame u v × (s ≡ t)

-- ---- worlds that are the same

-- clients that are listed as those of the new world
placed : (base u : World) (clients : Clients) → u ≡ listed base clients → u ≡ listed base u.clients
placed base u clients is = is ∙ ap (λ (cs : Clients). listed base cs) (sym (ap (λ (z : World). z.clients) is))

same_rest : (base u v : World) → u ≡ listed base u.clients → v ≡ listed base v.clients
    → u ≡ listed v u.clients
same_rest base u v one other = one ∙ sym (ap (λ (z : World). listed z u.clients) other)

-- one process is another in both
turned_agree : (w x u v : World) (client : ℕ) (process : Option Process) → Agree w x
    → OnlyChangesProcess w u client process → OnlyChangesProcess x v client process → Agree u v
turned_agree w x u v client process agree one other = λ c. elim (cases_eq c client) [
  | inl same ↦ ap (λ (k : ℕ). process_of u k) same ∙ one.own ∙ sym other.own
      ∙ sym (ap (λ (k : ℕ). process_of v k) same)
  | inr apart ↦ one.others c apart ∙ agree c ∙ sym (other.others c apart)
]

turned_same : (w : World) (clients : Clients) (base u v : World) (client : ℕ) (process : Option Process)
    → Agree w (listed w clients)
    → OnlyChangesProcess w u client process → OnlyChangesProcess (listed w clients) v client process
    → u ≡ listed base u.clients → v ≡ listed base v.clients → AreSame u v
turned_same w clients base u v client process agree one other first second =
    record {
      processes = turned_agree w (listed w clients) u v client process agree one other;
      rest =
          same_rest base u v first second;
    }

read_in : Clients → ℕ → Option Process
read_in clients client = option_and_then (λ (p : Option Process). p) (lookup (nat_eq client) clients)

-- the clients stay in both
kept_same : (w : World) (clients : Clients) (base u v : World) → base.clients ≡ w.clients
    → Agree w (listed w clients) → u ≡ base → v ≡ listed base clients → AreSame u v
unfolding read_in
kept_same w clients base u v kept agree one other =
    let first : u.clients ≡ w.clients = ap (λ (z : World). z.clients) one ∙ kept in
    let second : v.clients ≡ clients = ap (λ (z : World). z.clients) other in
    record {
      processes = λ c. ap (λ (cs : Clients). read_in cs c) first ∙ agree c
          ∙ sym (ap (λ (cs : Clients). read_in cs c) second);
      rest = same_rest base u v (placed base u base.clients one) (placed base v clients other);
    }

-- ---- the clients' events

module _ (w : World) (clients : Clients) (agree : Agree w (listed w clients)) (u v : World) (s t : Seen) where
  both_start : (client incarnation : ℕ) (version : Version) → Starts w client incarnation version u s
      → Starts (listed w clients) client incarnation version v t → Same u v s t
  both_start client incarnation version one other =
      let base : World = with_message (record w { started = w.started ++ (client, incarnation) ∷ [] })
      (hello_of (start_of client incarnation version)) in (
        turned_same w clients base u v client _ agree one.changes other.changes one.rest other.rest,
        one.shown
            ∙ sym other.shown,
      )

  same_key : (key same : Key) (client : ℕ) → process_of w client ≡ Some (Idle (Some key))
      → process_of (listed w clients) client ≡ Some (Idle (Some same)) → key ≡ same
  same_key key same client one other = is_key (same_Some _ _ (sym one ∙ agree client ∙ other))
    where
      is_key : Idle (Some key) ≡ Idle (Some same) → key ≡ same
      is_key e = cc

  same_asking : (asking same : Asking) (client : ℕ) → process_of w client ≡ Some (Outstanding asking)
      → process_of (listed w clients) client ≡ Some (Outstanding same) → asking ≡ same
  same_asking asking same client one other = is_asking (same_Some _ _ (sym one ∙ agree client ∙ other))
    where
      is_asking : Outstanding asking ≡ Outstanding same → asking ≡ same
      is_asking e = cc

  begun : (key : Key) (call : Call) → World
  begun key call = with_message (record w { asked = w.asked ++ (key, call) ∷ [] })
      (request_of (record { key = key; call = call }))

  both_begin : (client : ℕ) (call : Call) → Begins w client call u s
      → Begins (listed w clients) client call v t → Same u v s t
  unfolding begun
  both_begin client call one other =
      let key = same_key one.key other.key client one.idle other.idle in
      let changes = subst (λ (k : Key). OnlyChangesProcess (listed w clients) v client
      (Some (Outstanding (record { key = k; call = call })))) (sym key) other.changes in
      let rest = subst (λ (k : Key). v ≡ listed (begun k call) v.clients) (sym key) other.rest in (
        turned_same w clients (begun one.key call) u v client _ agree one.changes changes one.rest rest,
        one.shown ∙ sym other.shown,
      )

  both_say : (client : ℕ) (says : Asking → Message) → ProcessSays w client says u s
      → ProcessSays (listed w clients) client says v t → Same u v s t
  both_say client says one other =
      let asking = same_asking one.asking other.asking client one.outstanding other.outstanding in
      let after = subst (λ (a : Asking). v ≡ with_message (listed w clients) (says a)) (sym asking)
      other.after in (
        kept_same w clients (with_message w (says one.asking)) u v refl agree one.after after,
        one.shown
            ∙ sym other.shown,
      )

  both_crash : (client : ℕ) → Crashes w client u s → Crashes (listed w clients) client v t → Same u v s t
  both_crash client one other = (
    turned_same w clients w u v client None agree one.ends.changes
        other.ends.changes one.ends.rest other.ends.rest,
    one.shown ∙ sym other.shown,
  )

  -- ---- a delivery to a client

  turned_both : (client : ℕ) (process : Option Process) → ChangesProcess w client process u
      → ChangesProcess (listed w clients) client process v → AreSame u v
  turned_both client process one other = turned_same w clients w u v client process agree one.changes
      other.changes one.rest other.rest

  held_in : (key : Key) (reply : Reply) → World
  held_in key reply = record w { held = w.held ++ (key, reply) ∷ [] }

  both_take : (client : ℕ) (answer : Answer) (next : Option Key) (reply : Reply)
      → Takes w client answer next reply u s → Takes (listed w clients) client answer next reply v t
      → Same u v s t
  unfolding held_in
  both_take client answer next reply one other =
      let key : one.key ≡ other.key = settled_key one.key other.key one.settles other.settles in
      let rest = subst (λ (k : Key). v ≡ listed (held_in k reply) v.clients) (sym key) other.rest in (
        turned_same w clients (held_in one.key reply) u v client _ agree one.changes other.changes one.rest
            rest,
        one.shown ∙ ap (λ (k : Key). sees.Settled k) key ∙ sym other.shown,
      )
    where
      settled_key : (key same : Key) → Settles key answer reply → Settles same answer reply → key ≡ same
      settled_key key same p q = cc

  both_become : (client : ℕ) (answer : Answer) (outcome : Outcome) → WorldBecomes w client answer outcome u s
      → WorldBecomes (listed w clients) client answer outcome v t → Same u v s t
  both_become client answer (Welcomed next) one other = (
    turned_both client _ one.0 other.0,
    one.1
        ∙ sym other.1,
  )
  both_become client answer (TurnedAway same refusal) one other = (
    turned_both client _ one.0 other.0,
    one.1
        ∙ sym other.1,
  )
  both_become client answer (Settled next reply) one other = both_take client answer next reply one other
  both_become client answer (EpochEnded key current) one other = (
    turned_both client _ one.0 other.0,
    one.1
        ∙ sym other.1,
  )
  both_become client answer (Replaced key current) one other = (
    turned_both client _ one.0 other.0,
    one.1
        ∙ sym other.1,
  )
  both_become client answer (Ignored same) one other = (
    kept_same w clients w u v refl agree one.0 other.0,
    one.1 ∙ sym other.1,
  )

  both_come : (process : Option Process) (packet : Packet) → ComesTo process w packet u s
      → ComesTo process (listed w clients) packet v t → Same u v s t
  both_come None packet one other = (kept_same w clients w u v refl agree one.0 other.0, one.1 ∙ sym other.1)
  both_come (Some process) packet one other =
      let outcome = one_outcome process packet.answer one.outcome other.outcome one.hears other.hears in
      both_become packet.client packet.answer one.outcome one.becomes
      (subst (λ (o : Outcome). WorldBecomes (listed w clients) packet.client packet.answer o v t)
      (sym outcome) other.becomes)

  both_reach_client : (packet : ℕ) → ReachesClient w packet u s → ReachesClient (listed w clients) packet v t
      → Same u v s t
  both_reach_client packet one other =
      let sent : one.sent ≡ other.sent = same_Some _ _ (sym one.there ∙ other.there) in
      let comes = subst (λ (p : Packet). ComesTo (process_of (listed w clients) p.client) (listed w clients) p
      v t) (sym sent) other.comes in
      both_come (process_of w one.sent.client) one.sent one.comes
      (subst (λ (o : Option Process). ComesTo o (listed w clients) one.sent v t) (sym (agree one.sent.client))
      comes)

  -- ---- a new server

  both_open : (epoch : ℕ) → OpensEpoch w epoch u s → OpensEpoch (listed w clients) epoch v t → Same u v s t
  both_open epoch one other = (
    kept_same w clients (record w { earlier = accounts w; present = empty_account epoch }) u v refl agree
        one.after other.after,
    one.shown ∙ sym other.shown,
  )

-- ---- a delivery to the server

-- where no want of memory is sent, what was said is told, and it is none
told_said : (limits : StepLimits) (w : World) (packet moment : ℕ) (u : World) (s : Seen)
    → (is : ReachesServerUnder limits w packet moment u s) → ¬ SentNoMemory w u
    → (is.told ≡ is.said) × (is.said ≢ answers.Refused refusals.NoMemory)
told_said limits w packet moment u s is ample = elim is.is_told [
  | inl same ↦ (same, λ none. ample (lacks (same ∙ none)))
  | inr lacking ↦ absurd (ample (lacks lacking.1))
]
  where
    lacks : is.told ≡ answers.Refused refusals.NoMemory → SentNoMemory w u
    lacks none = record {
      client = sender is.message;
      sent = ap (λ (z : World). z.to_client) is.rest ∙ ap (λ (a : Answer). w.to_client ++ record {
        client =
            sender is.message;
        answer = a;
      } ∷ []) none;
    }

answered : World → Account → Message → Answer → World
answered w after message told = record w {
  present = after;
  to_client = w.to_client ++ record {
    client =
        sender message;
    answer = told;
  } ∷ [];
}

both_reach_server : (limits : StepLimits) (w : World) (clients : Clients) (packet moment : ℕ) (u v : World)
    (s t : Seen)
    → Agree w (listed w clients) → ReachesServerUnder limits w packet moment u s
    → ReachesServerUnder limits (listed w clients) packet moment v t
    → ¬ SentNoMemory w u → ¬ SentNoMemory (listed w clients) v → Same u v s t
unfolding answered
both_reach_server limits w clients packet moment u v s t agree one other ample enough =
    let message : one.message ≡ other.message = same_Some _ _ (sym one.there ∙ other.there) in
    let first = told_said limits w packet moment u s one ample in
    let second = told_said limits (listed w clients) packet moment v t other enough in
    let next = subst (λ (m : Message). NextUnder limits w.present moment m v.present other.said) (sym message)
    other.next
    in
    let same = one_next_under limits w.present u.present v.present moment one.message one.said other.said
    one.next next
    first.1 second.1 in
    let told : one.told ≡ other.told = first.0 ∙ same.1 ∙ sym second.0 in
    let rest : v ≡ listed (answered w u.present one.message one.told) clients =
    other.rest ∙ ap (λ (a : Account). listed (answered w a other.message other.told) clients) (sym same.0)
    ∙ ap (λ (m : Message). listed (answered w u.present m other.told) clients) (sym message)
    ∙ ap (λ (a : Answer). listed (answered w u.present one.message a) clients) (sym told) in (
      kept_same w clients (answered w u.present one.message one.told) u v refl agree one.rest rest,
      one.shown
          ∙ sym other.shown,
    )

both_step : (limits : StepLimits) (w : World) (clients : Clients) (e : Event) (u v : World) (s t : Seen)
    → Agree w (listed w clients) → StepsUnder limits w e u s → StepsUnder limits (listed w clients) e v t
    → ¬ SentNoMemory w u → ¬ SentNoMemory (listed w clients) v → Same u v s t
both_step limits w clients (event.Start client incarnation version) u v s t agree one other ample enough =
    both_start w clients agree u v s t client incarnation version one other
both_step limits w clients (event.Begin client call) u v s t agree one other ample enough =
    both_begin w clients agree u v s t client call one other
both_step limits w clients (event.Resend client) u v s t agree one other ample enough =
    both_say w clients agree u v s t client request_of one other
both_step limits w clients (event.CancelSent client) u v s t agree one other ample enough =
    both_say w clients agree u v s t client cancel_of one other
both_step limits w clients (event.Crash client) u v s t agree one other ample enough =
    both_crash w clients agree u v s t client one other
both_step limits w clients (event.ToServer packet moment) u v s t agree one other ample enough =
    both_reach_server limits w clients packet moment u v s t agree one other ample enough
both_step limits w clients (event.ToClient packet) u v s t agree one other ample enough =
    both_reach_client w clients agree u v s t packet one other
both_step limits w clients (event.NewEpoch epoch) u v s t agree one other ample enough =
    both_open w clients agree u v s t epoch one other

-- ---- refusals

module _ (w x : World) (agree : Agree w x) where
  -- one that runs, and none
  some_none : {G : Type 0} (client : ℕ) (process : Process) → process_of w client ≡ Some process
      → process_of x client ≡ None → G
  some_none client process one none = absurd (none-some process (sym none ∙ sym (agree client) ∙ one))

  none_or_other : (client : ℕ) (Is : Process → Type 0) (due p q : WorldRefusal)
      → RunsNone w client p ⊎ (RunsBut w client Is × (p ≡ due))
      → RunsNone x client q ⊎ (RunsBut x client Is × (q ≡ due)) → p ≡ q
  none_or_other client Is due p q (inl one) (inl other) = one.1 ∙ sym other.1
  none_or_other client Is due p q (inl one) (inr other) = absurd (none-some other.0.process (sym one.0
      ∙ agree client ∙ other.0.runs))
  none_or_other client Is due p q (inr one) (inl other) = some_none client one.0.process one.0.runs other.0
  none_or_other client Is due p q (inr one) (inr other) = one.1 ∙ sym other.1

  -- one that runs and is such is no reason to refuse
  runs_such : {G : Type 0} (client : ℕ) (Is : Process → Type 0) (due q : WorldRefusal) (process : Process)
      → process_of w client ≡ Some process → Is process
      → RunsNone x client q ⊎ (RunsBut x client Is × (q ≡ due)) → G
  runs_such client Is due q process runs such (inl none) = some_none client process runs none.0
  runs_such client Is due q process runs such (inr but) =
      absurd (but.0.is_not (subst Is (same_Some _ _ (sym runs ∙ agree client ∙ but.0.runs)) such))

one_due : (w : World) (clients : Clients) (e : Event) (p q : WorldRefusal) → Agree w (listed w clients)
    → RefusalDue w e p → RefusalDue (listed w clients) e q → p ≡ q
one_due w clients (event.Start client incarnation version) p q agree one other = one.1 ∙ sym other.1
one_due w clients (event.Begin client call) p q agree one other = none_or_other w (listed w clients) agree
    client IsReady _ p q one other
one_due w clients (event.Resend client) p q agree one other = none_or_other w (listed w clients) agree client
    IsAsking _ p q one other
one_due w clients (event.CancelSent client) p q agree one other = none_or_other w (listed w clients) agree
    client IsAsking _ p q one other
one_due w clients (event.Crash client) p q agree one other = one.1 ∙ sym other.1
one_due w clients (event.ToServer packet moment) p q agree one other = one.1 ∙ sym other.1
one_due w clients (event.ToClient packet) p q agree one other = one.1 ∙ sym other.1
one_due w clients (event.NewEpoch epoch) p q agree one other = one.1 ∙ sym other.1

-- where a step is, no refusal is due
step_due : (limits : StepLimits) (w x : World) (e : Event) (u : World) (s : Seen) (q : WorldRefusal)
    → Agree w x
    → x.started ≡ w.started → x.to_server ≡ w.to_server → x.to_client ≡ w.to_client
    → x.present.epoch ≡ w.present.epoch → StepsUnder limits w e u s → RefusalDue x e q → ⊥
step_due limits w x (event.Start client incarnation version) u s q agree started sent answered epoch one due =
    start_due w client incarnation version one.newest q (
      record {
        other = due.0.other;
        there =
            subst (λ (l : List (ℕ × ℕ)). Contains l (client, due.0.other)) started due.0.there;
        reaches =
            due.0.reaches;
      },
      due.1,
    )
step_due limits w x (event.Begin client call) u s q agree started sent answered epoch one due =
    runs_such w x agree client IsReady _ q _ one.idle (one.key, refl) due
step_due limits w x (event.Resend client) u s q agree started sent answered epoch one due =
    runs_such w x agree client IsAsking _ q _ one.outstanding (one.asking, refl) due
step_due limits w x (event.CancelSent client) u s q agree started sent answered epoch one due =
    runs_such w x agree client IsAsking _ q _ one.outstanding (one.asking, refl) due
step_due limits w x (event.Crash client) u s q agree started sent answered epoch one due = some_none w x agree
    client
    one.process one.runs due.0
step_due limits w x (event.ToServer packet moment) u s q agree started sent answered epoch one due =
    none-some one.message (sym due.0 ∙ ap (λ (l : List Message). slice_get l packet) sent ∙ one.there)
step_due limits w x (event.ToClient packet) u s q agree started sent answered epoch one due =
    none-some one.sent (sym due.0 ∙ ap (λ (l : List Packet). slice_get l packet) answered ∙ one.there)
step_due limits w x (event.NewEpoch new) u s q agree started sent answered epoch one due =
    let most : new ≤ x.present.epoch = due.0 in
    let less : w.present.epoch < new = one.greater in
    omega (arith, epoch, most, less)

-- ---- together

-- a refusal that is no want of memory is due
is_due : (w u : World) (e : Event) (p : WorldRefusal) → IsEventRefused w e p → HadMemory w u (Err p)
    → RefusalDue w e p
is_due w u e p (inl due) ample = due
is_due w u e p (inr lacks) ample = absurd (ample.not_refused (ap (λ (r : WorldRefusal). Err r) lacks.is))

both_come_of : (limits : StepLimits) (w : World) (clients : Clients) (e : Event) (u v : World) (one other :
    Result Seen WorldRefusal) → Agree w (listed w clients) → EventComesToUnder limits w e u one
    → EventComesToUnder limits (listed w clients) e v other → HadMemory w u one
    → HadMemory (listed w clients) v other → AreSame u v × (one ≡ other)
both_come_of limits w clients e u v (Ok s) (Ok t) agree first second ample enough =
    let same = both_step limits w clients e u v s t agree first second ample.not_sent enough.not_sent in
    (same.0, ap (λ (seen : Seen). Ok seen) same.1)
both_come_of limits w clients e u v (Ok s) (Err q) agree first second ample enough =
    absurd (step_due limits w (listed w clients) e u s q agree refl refl refl refl first
    (is_due (listed w clients) v
    e q second.0 enough))
both_come_of limits w clients e u v (Err p) (Ok t) agree first second ample enough =
    absurd (step_due limits (listed w clients) w e v t p (λ c. sym (agree c)) refl refl refl refl second
    (is_due w u e p first.0 ample))
both_come_of limits w clients e u v (Err p) (Err q) agree first second ample enough = (
  kept_same w clients w u v refl agree first.1 second.1,
  ap (λ (r : WorldRefusal). Err r) (one_due w clients e p q agree (is_due w u e p first.0 ample)
      (is_due (listed w clients) v e q second.0 enough)),
)

pub one_step_under : (limits : StepLimits) → OneStepUnder limits
one_step_under limits w x u v e one other same first second ample enough =
    let back : listed w x.clients ≡ x = ap (λ (z : World). listed z x.clients) same.rest in
    subst (λ (z : World). Agree w z → EventComesToUnder limits z e v other → HadMemory z v other → AreSame u v
    × (one ≡ other)) back
    (λ agree comes memory. both_come_of limits w x.clients e u v one other agree first comes ample memory)
    same.processes second enough

-- ---- time passes

both_pass : (w : World) (clients : Clients) (moment : ℕ) (u v : World) → Agree w (listed w clients)
    → TimePasses w moment u → TimePasses (listed w clients) moment v → AreSame u v
both_pass w clients moment u v agree one other =
    let same = one_ticked w.present u.present v.present moment one.ticks other.ticks in
    let rest : v ≡ listed (record w { present = u.present }) clients =
    other.rest ∙ ap (λ (a : Account). listed (record w { present = a }) clients) (sym same) in
    kept_same w clients (record w { present = u.present }) u v refl agree one.rest rest

one_passed : (w x : World) (moment : ℕ) (u v : World) → AreSame w x → TimePasses w moment u
    → TimePasses x moment v → AreSame u v
one_passed w x moment u v same first second =
    let back : listed w x.clients ≡ x = ap (λ (z : World). listed z x.clients) same.rest in
    subst (λ (z : World). Agree w z → TimePasses z moment v → AreSame u v) back
    (λ agree passes. both_pass w x.clients moment u v agree first passes) same.processes second

-- ---- whatever happens

-- an event before others had memory, where no answer after them tells that it lacked
had_memory : (w u v : World) (happenings : List Happening) (s : Seen) → RunsAnyhow u happenings v
    → NeverLacked v → HadMemory w u (Ok s)
had_memory w u v happenings s runs never = record {
  not_refused = λ e. cc;
  not_sent = λ sent.
      let lacking : Packet = record { client = sent.client; answer = answers.Refused refusals.NoMemory } in
      let there : Contains u.to_client lacking = subst (λ (l : List Packet). Contains l lacking)
      (sym sent.sent) (Contains-push w.to_client lacking) in
      let grows = runs_grow_anyhow u happenings v runs in
      never lacking (still_contains u.to_client v.to_client lacking grows.answers there) refl;
}

one_happened : (w x u v : World) (happening : Happening) (after other : List Happening) (y z : World)
    → AreSame w x → Happens w happening u → Happens x happening v → RunsAnyhow u after y
    → RunsAnyhow v other z → NeverLacked y → NeverLacked z → AreSame u v
one_happened w x u v (Under limits e) after other y z same first second runs also never neither =
    let ample = had_memory w u y after first.0 runs never in
    let enough = had_memory x v z other second.0 also neither in
    (one_step_under limits w x u v e (Ok first.0) (Ok second.0) same first.1 second.1 ample enough).0
one_happened w x u v (Elapses moment) after other y z same first second runs also never neither =
    one_passed w x moment u v same first second

pub one_run_anyhow : OneRunAnyhow
one_run_anyhow w x u v [] same first second never neither =
    subst (λ (z : World). AreSame z v) (sym first) (subst (λ (z : World). AreSame w z) (sym second) same)
one_run_anyhow w x u v (happening ∷ happenings) same first second never neither =
    let then = one_happened w x first.0 second.0 happening happenings happenings u v same first.1 second.1
    first.2 second.2 never neither in
    one_run_anyhow first.0 second.0 u v happenings then first.2 second.2 never neither

pub one_run : OneRun
one_run w x u v events same first second never neither =
    one_run_anyhow w x u v (by_a_book events) same (runs_happen w events u first) (runs_happen x events v
    second) never neither
