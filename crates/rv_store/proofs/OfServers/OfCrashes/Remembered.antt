-- Nobody is forgotten: whatever occurs, a server that clients speak to knows their keys.
use Rattle.rv_world.proofs.OfParts.Words.{◌≡◌, ◌⊎◌, ◌∷◌, ◌∙◌, inl, inr, ℕ, List, [], Option, Some, None, refl}
use Rattle.rv_world.proofs.OfParts.Words.{sym, ap, subst, arith, same_Some, Contains, Contains-push}
use Rattle.rv_world.proofs.OfParts.Words.{Contains-push_cases, length, ◌≤◌, Account, Answer, Call, Entry, Key}
use Rattle.rv_world.proofs.OfParts.Words.{Legal, Message, NextUnder, Reply, HasReply, HasEachKeyOnce}
use Rattle.rv_world.proofs.OfParts.Words.{StepLimits, Version, World, accounts, step_moment, sender}
use Rattle.rv_world.proofs.OfParts.Words.{slice_get, WasAsked}
use Rattle.rv_text.specs.declared.answer.Answer.TheVariants as answers
use Rattle.rv_text.specs.declared.answer.Refusal.{Refusal}
use Rattle.rv_text.specs.declared.answer.Refusal.TheVariants as refusals
use Rattle.rv_text.specs.declared.message.Message.TheVariants as message
use Rattle.rv_account.specs.Account.{Extends, act_at, own_moment, with_entry}
use Rattle.rv_account.specs.declared.entry.Act.TheVariants as act
use Rattle.rv_account.specs.declared.entry.Act.{Act}
use Rattle.rv_account.specs.rules.Legal.{before}
use Rattle.rv_account.specs.rules.Resting.{rests_on}
use Rattle.rv_account.specs.rules.Sessions.{HasIncarnation}
use Rattle.rv_account.specs.rules.Steps.{Adds, Answers, ClientsFullDueUnder, EntersOrNoMemory}
use Rattle.rv_account.specs.rules.Steps.{EpochFullDueUnder}
use Rattle.rv_account.specs.rules.Steps.{NextAtUnder, PlaceLine, PlacesFullDue, Refuses, Replies}
use Rattle.rv_account.proofs.OfRules.Fronts.{read_whole}
use Rattle.rv_account.proofs.OfRules.Growing.{act_read, reads_on}
use Rattle.rv_account.proofs.OfRules.Lines.{RefuseOr-elim, WhereElse-elim}
use Rattle.rv_account.proofs.OfRules.Places.{get-append_end}
use Rattle.rv_account.proofs.OfState.Extending.{extends_on, ticks_extend}
use Rattle.rv_account.proofs.OfState.StateLaws.{ticks_move}
use Rattle.rv_book.proofs.Staying.{replies_stay}
use Rattle.rv_world.specs.declared.parts.event.Event.{Event}
use Rattle.rv_world.specs.declared.parts.event.Event.TheVariants as event
use Rattle.rv_world.specs.declared.parts.packet.Packet.{Packet}
use Rattle.rv_world.specs.parts.Events.{IsTold}
use Rattle.rv_world.proofs.OfParts.Answered.{key_lines, ticked_arrives}
use Rattle.rv_world.proofs.OfParts.Listing.{place_of}
use Rattle.rv_store.specs.servers.crashes.Crashes.{AtServer, CrashWorld, Crashed, Lacked, LeavesServer}
use Rattle.rv_store.specs.servers.crashes.Crashes.{Occurrence, Occurs, Outside, Passed, RunsAcross, Sends}
use Rattle.rv_store.specs.servers.crashes.Crashes.{Server, ServerEffect, ServerDoes, Stepped, Stored}
use Rattle.rv_store.specs.servers.crashes.Crashes.{IsOfMessages, first_crash_world, made, stored_world}
use Rattle.rv_store.specs.servers.crashes.Laws.{EffectsKeepServers, ForgetsClient, IsOfSomeStep}
use Rattle.rv_store.specs.servers.crashes.Laws.{SentIsStored}
use Rattle.rv_store.proofs.OfServers.OfCrashes.Fronts.{made_extends}
use Rattle.rv_store.proofs.OfServers.OfCrashes.Effects.{nothing_there, ticked_act}
use Rattle.rv_store.proofs.OfServers.OfCrashes.Around.{IsOutside, outside_is}
use Rattle.rv_store.proofs.OfServers.OfCrashes.Across.{IsKept, first_kept, occurs_leads}
use Rattle.rv_store.proofs.OfServers.OfCrashes.Known.{HasBefore, IsKnown, KnowsMessage, Remembers}
use Rattle.rv_store.proofs.OfServers.OfCrashes.Known.{at_remembers}
use Rattle.rv_store.proofs.OfServers.OfCrashes.Turns.{IsInTurn, KeepTurns, WasToldBefore, first_turns}
use Rattle.rv_store.proofs.OfServers.OfCrashes.Turns.{steps_turns, turns_at, turns_sent}

-- ---- a welcome rests on its hello

-- some hello of the client's incarnation stands among the entries, and the epoch is the account's
record IsGreeted (b : Account) (epoch client incarnation : ℕ) : Type 0 where
  place : ℕ
  version : Version
  hello : act_at b.entries place ≡ Some (act.Hello client incarnation version)
  epoch_is : epoch ≡ b.epoch

module _ (epoch client incarnation : ℕ) (version : Version) where
  abbrev Welcome : Answer
  Welcome = answers.Welcome epoch client incarnation version

  no_refused : (refusal : Refusal) → answers.Refused refusal ≡ Welcome → ⊥
  no_refused refusal is = cc

  no_replied : (key : Key) (told : Reply) → answers.Replied key told ≡ Welcome → ⊥
  no_replied key told is = cc

  no_waiting : (key : Key) → answers.Waiting key ≡ Welcome → ⊥
  no_waiting key is = cc

  same_welcome : (e c i : ℕ) (v : Version) → answers.Welcome e c i v ≡ Welcome
      → (epoch ≡ e) × (c ≡ client) × (i ≡ incarnation)
  same_welcome e c i v is = (cc, cc, cc)

  no_answers : (c : Account) (key : Key) (x : Answer) → x ≡ Welcome → Answers c key x → ⊥
  no_answers c key x is (inl replies) = no_replied key replies.reply (sym replies.is ∙ is)
  no_answers c key x is (inr waits) = no_waiting key (sym waits.1 ∙ is)

  module _ (a b : Account) (x : Answer) (is : x ≡ Welcome) where
    refused_greets : (refusal : Refusal) → Refuses a b x refusal → IsGreeted b epoch client incarnation
    refused_greets refusal refuses = absurd (no_refused refusal (sym refuses.1 ∙ is))

    enters_greets : (T : Type 0) (moment : ℕ) (does : Act)
        → (Adds a moment does b → T → IsGreeted b epoch client incarnation)
        → EntersOrNoMemory a moment does b x T → IsGreeted b epoch client incarnation
    enters_greets T moment does well (inl refuses) = refused_greets refusals.NoMemory refuses
    enters_greets T moment does well (inr entered) = well entered.0 entered.1

    place_greets : (bound : Option ℕ) (call : Call) (T : Type 0) → (T → IsGreeted b epoch client incarnation)
        → PlaceLine bound a call (Refuses a b x) T → IsGreeted b epoch client incarnation
    place_greets None call T well line = well line
    place_greets (Some most) call T well line = RefuseOr-elim (PlacesFullDue most a call) (Refuses a b x) T
        (IsGreeted b epoch client incarnation) (λ refusal due. refused_greets refusal) well line

    greeted_by : (c i : ℕ) (v : Version) (place : ℕ) (spoken : Version) → x ≡ answers.Welcome b.epoch c i v
        → act_at b.entries place ≡ Some (act.Hello c i spoken) → IsGreeted b epoch client incarnation
    greeted_by c i v place spoken welcome there =
        let same = same_welcome b.epoch c i v (sym welcome ∙ is) in
        record {
          place = place;
          version = spoken;
          hello = subst (λ (d : ℕ). act_at b.entries place ≡ Some (act.Hello d incarnation spoken)) same.1
              (subst (λ (j : ℕ). act_at b.entries place ≡ Some (act.Hello c j spoken)) same.2 there);
          epoch_is = same.0;
        }

    entered_hello : (moment c i : ℕ) (v : Version) → Adds a moment (act.Hello c i v) b
        → x ≡ answers.Welcome a.epoch c i v → IsGreeted b epoch client incarnation
    entered_hello moment c i v added welcome =
        let there : act_at (with_entry a added.entry).entries (length a.entries) ≡ Some (act.Hello c i v) =
        ap act_read (get-append_end a.entries added.entry) ∙ ap Some added.act_is in
        greeted_by c i v (length a.entries) v
        (subst (λ (d : Account). x ≡ answers.Welcome d.epoch c i v) (sym added.follows) welcome)
        (subst (λ (d : Account). act_at d.entries (length a.entries) ≡ Some (act.Hello c i v))
        (sym added.follows)
        there)

    repeated_hello : (c i : ℕ) (v : Version) → HasIncarnation a.entries c i → b ≡ a
        → x ≡ answers.Welcome a.epoch c i v → IsGreeted b epoch client incarnation
    repeated_hello c i v has same welcome = greeted_by c i v has.0 has.1.version
        (subst (λ (d : Account). x ≡ answers.Welcome d.epoch c i v) (sym same) welcome)
        (subst (λ (d : Account). act_at d.entries has.0 ≡ Some (act.Hello c i has.1.version)) (sym same)
        has.1.hello)

    greets_at : (limits : StepLimits) (moment : ℕ) (m : Message) → NextAtUnder limits a moment m b x
        → IsGreeted b epoch client incarnation
    greets_at limits moment (message.Hello c i v) next =
        RefuseOr-elim _ _ _ (IsGreeted b epoch client incarnation) (λ refusal due. refused_greets refusal)
        (RefuseOr-elim _ _ _ (IsGreeted b epoch client incarnation) (λ refusal due. refused_greets refusal)
        (WhereElse-elim _ _ _ (IsGreeted b epoch client incarnation) (λ has again. repeated_hello c i v has
        again.0
        again.1)
        (RefuseOr-elim (ClientsFullDueUnder limits a c) _ _ (IsGreeted b epoch client incarnation)
        (λ refusal due. refused_greets refusal)
        (RefuseOr-elim (EpochFullDueUnder limits a 1) _ _ (IsGreeted b epoch client incarnation)
        (λ refusal due. refused_greets refusal)
        (enters_greets _ moment (act.Hello c i v) (entered_hello moment c i v)))))) next
    greets_at limits moment (message.Request key call) next =
        key_lines (Refuses a b x) _ _ (IsGreeted b epoch client incarnation) a key refused_greets
        (λ own. RefuseOr-elim _ _ _ (IsGreeted b epoch client incarnation) (λ refusal due. refused_greets
        refusal)
        (λ again. absurd (no_answers a key x is again.answers)))
        (λ own. RefuseOr-elim _ _ _ (IsGreeted b epoch client incarnation) (λ refusal due. refused_greets
        refusal)
        (place_greets limits.open_places call _ (enters_greets (Answers b key x) moment (act.Arrive key call)
        (λ added told. absurd (no_answers b key x is told))))) next
    greets_at limits moment (message.Cancel key) next =
        key_lines (Refuses a b x) _ _ (IsGreeted b epoch client incarnation) a key refused_greets
        (λ own. WhereElse-elim _ _ _ (IsGreeted b epoch client incarnation) (λ waits ends. absurd
        (no_replied key _
        (sym ends.1 ∙ is))) (λ again. absurd (no_answers a key x is again.answers)))
        (λ own. RefuseOr-elim _ _ _ (IsGreeted b epoch client incarnation) (λ refusal due. refused_greets
        refusal)
        (enters_greets (Replies b key x) moment (act.Cancel key) (λ added replies. absurd (no_replied key
        replies.reply (sym replies.is ∙ is))))) next

-- ---- what a server's account knows

-- of keys that are asked once one call is asked
one_call : (list : List (Key × Call)) (key : Key) (one other : Call) → HasEachKeyOnce list
    → Contains list (key, one) → Contains list (key, other) → one ≡ other
one_call list key one other once there also =
    let i = place_of list (key, one) there in
    let j = place_of list (key, other) also in
    let same : i.0 ≡ j.0 = once i.0 j.0 key one other i.1 j.1 in
    ap (λ (p : Key × Call). p.1) (same_Some _ _ (sym i.1 ∙ ap (slice_get list) same ∙ j.1))

welcome_not_lacked : (epoch client incarnation : ℕ) (version : Version)
    → answers.Welcome epoch client incarnation version ≡ answers.Refused refusals.NoMemory → ⊥
welcome_not_lacked epoch client incarnation version is = cc

-- who was sent a welcome stands in the account of its epoch
greeted : (w : World) (client epoch own incarnation : ℕ) (version : Version)
    → IsOfSomeStep w (record { client = client; answer = answers.Welcome epoch own incarnation version })
    → (a : Account) × Contains (accounts w) a × IsGreeted a epoch own incarnation
greeted w client epoch own incarnation version some =
    let step = some.step in
    let a : Account = some.account in
    elim step.is_told [
      | inr none ↦ absurd (welcome_not_lacked epoch own incarnation version none.1)
      | inl same ↦
          let is = greets_at epoch own incarnation version step.next.ticked (before a some.count) step.said
          (sym same)
          step.limits (step_moment (before a step.early) step.moment) step.message step.next.steps in (
            a,
            some.is_there,
            record {
              place = is.place;
              version = is.version;
              hello = (read_whole act_read refl a.entries some.count is.place (act.Hello own incarnation
                  is.version)
                  is.hello).1;
              epoch_is = is.epoch_is;
            },
          )
    ]

module _ (c : CrashWorld) (kept : IsKept c) (turns : KeepTurns (stored_world c)) (t : Account) (legal :
    Legal t)
    (extends : Extends c.server.stored t) where
  stored_there : Contains (accounts (stored_world c)) c.server.stored
  stored_there = Contains-push c.around.earlier c.server.stored

  -- the account of the epoch is what is stored
  is_stored : (a : Account) → Contains (accounts (stored_world c)) a → a.epoch ≡ t.epoch → a ≡ c.server.stored
  is_stored a there epoch = kept.sound.legal_accounts.one_each a c.server.stored there stored_there
      (epoch ∙ extends.epoch)

  known_before : (key : Key) → key.epoch ≡ t.epoch → WasToldBefore (stored_world c) key → HasBefore t key
  known_before key epoch is =
      let reply = kept.sound.no_two_replies.answered_is is.key_before is.told is.answered in
      let same : reply.account ≡ c.server.stored = is_stored reply.account reply.is_of.is_there
      (reply.is_of.epoch_is
      ∙ is.epoch_is ∙ epoch) in
      record {
        key_before = is.key_before;
        told = is.told;
        has = (replies_stay c.server.stored t is.key_before is.told (kept.sound.legal_accounts.legal
            c.server.stored
            stored_there) legal extends (subst (λ (a : Account). HasReply a.entries is.key_before is.told)
            same
            reply.has)).0;
        epoch_is = is.epoch_is;
        client_is = is.client_is;
        incarnation_is = is.incarnation_is;
        number_is = is.number_is;
      }

  known_turn : (key : Key) → key.epoch ≡ t.epoch → (key.number ≡ 1) ⊎ WasToldBefore (stored_world c) key
      → (key.number ≡ 1) ⊎ HasBefore t key
  known_turn key epoch (inl first) = inl first
  known_turn key epoch (inr is) = inr (known_before key epoch is)

  known : (key : Key) (call : Call) → WasAsked (stored_world c) key call → key.epoch ≡ t.epoch → IsKnown t key
  known key call asked epoch =
      let turn : IsInTurn (stored_world c) key = turns.asked key call asked in
      elim (kept.every (record {
        client = turn.client;
        answer = answers.Welcome key.epoch key.client key.incarnation turn.version;
      }) turn.welcome) [
        | inl none ↦ absurd (welcome_not_lacked key.epoch key.client key.incarnation turn.version none)
        | inr some ↦
            let at = greeted (stored_world c) turn.client key.epoch key.client key.incarnation turn.version
            some in
            let same : at.0 ≡ c.server.stored = is_stored at.0 at.1 (sym at.2.epoch_is ∙ epoch) in
            let hello : act_at c.server.stored.entries at.2.place ≡ Some (act.Hello key.client key.incarnation
            at.2.version) = subst (λ (a : Account). act_at a.entries at.2.place ≡ Some (act.Hello key.client
            key.incarnation at.2.version)) same at.2.hello in
            record {
              place = at.2.place;
              version = at.2.version;
              hello = subst (λ (es : List Entry). act_at es at.2.place ≡ Some (act.Hello key.client
                  key.incarnation
                  at.2.version)) (sym extends.entries) (reads_on act_read refl c.server.stored.entries
                  extends.more
                  at.2.place (act.Hello key.client key.incarnation at.2.version) hello);
              turn = known_turn key epoch turn.turn;
            }
      ]

  -- each arrival in it was asked, and each hello came
  knows : (m : Message) → Contains c.around.to_server m
      → ((r : ℕ) (key : Key) (call : Call) → act_at t.entries r ≡ Some (act.Arrive key call)
      → WasAsked (stored_world c) key call)
      → ((r client incarnation : ℕ) (version : Version)
      → act_at t.entries r ≡ Some (act.Hello client incarnation version)
      → Contains c.around.to_server (message.Hello client incarnation version))
      → KnowsMessage t m
  knows (message.Hello client incarnation version) sent arrivals hellos = λ other opened. opened.version_is
      ∙ turns.one_version client incarnation opened.last.version version (hellos opened.h client incarnation
      opened.last.version opened.last.hello) sent
  knows (message.Request key call) sent arrivals hellos =
      let asked = kept.sound.accounted.messages (message.Request key call) sent in (
        known key call asked,
        λ r other arrived. one_call c.around.asked key other call kept.sound.no_two_replies.asked_once
            (arrivals r key
            other arrived) asked,
      )
  knows (message.Cancel key) sent arrivals hellos =
      let asked = kept.sound.accounted.messages (message.Cancel key) sent in
      known key asked.0 asked.1

-- the step's answer forgets nobody
step_remembers : (c : CrashWorld) (limits : StepLimits) (moment : ℕ) (m : Message) (b : Account) (said :
    Answer)
    → IsKept c → KeepTurns (stored_world c) → Contains c.around.to_server m
    → NextUnder limits (made c.server) moment m b said → Remembers said
step_remembers c limits moment m b said kept turns sent next =
    let a : Account = made c.server in
    let t : Account = next.ticked in
    let at : ℕ = step_moment a moment in
    let legal : Legal t = (ticks_move a t at kept.server.legal (own_first a moment) next.ticks).legal in
    at_remembers limits t b at m said legal (knows c kept turns t legal (extends_on c.server.stored a t
    (made_extends
    c.server) (ticks_extend a t at next.ticks)) m sent
    (λ r key call arrived. kept.sound.accounted.messages (message.Request key call) (kept.server.arrivals r
    key call
    (ticked_arrives a t at r key call next.ticks arrived)))
    (λ r client incarnation version hello. elim (ticked_act a t at r (act.Hello client incarnation version)
    next.ticks
    hello) [
      | inl old ↦ kept.server.hellos r client incarnation version old
      | inr tick ↦ absurd (no_tick client incarnation version tick)
    ])) next.steps
  where
    own_first : (a : Account) (now : ℕ) → own_moment a ≤ step_moment a now
    own_first a now = omega arith

    no_tick : (client incarnation : ℕ) (version : Version) → act.Tick ≡ act.Hello client incarnation version
        → ⊥
    no_tick client incarnation version is = cc

-- ---- whatever occurs

pub record IsRemembering (c : CrashWorld) : Type 0 where
  pub kept : IsKept c
  pub turns : KeepTurns (stored_world c)
  pub held : (packet : Packet) (count : ℕ) → Contains c.server.withheld (packet, count)
      → Remembers packet.answer
  pub sent : (packet : Packet) → Contains c.around.to_client packet → Remembers packet.answer

same_refused : (r s : Refusal) → answers.Refused r ≡ answers.Refused s → r ≡ s
same_refused r s is = cc

lack_remembers : (x : Answer) → x ≡ answers.Refused refusals.NoMemory → Remembers x
lack_remembers x lacks refusal is forgets =
    subst ForgetsClient (same_refused refusal refusals.NoMemory (sym is ∙ lacks)) forgets

told_remembers : (said told : Answer) → IsTold said told → Remembers said → Remembers told
told_remembers said told (inl same) well = subst Remembers (sym same) well
told_remembers said told (inr none) well = lack_remembers told none.1

effect_remembers : (c : CrashWorld) (effect : ServerEffect) (t : Server) → IsRemembering c
    → IsOfMessages c.around.to_server effect → ServerDoes c.server effect t → (packet : Packet) (count : ℕ)
    → Contains t.withheld (packet, count) → Remembers packet.answer
effect_remembers c (Stepped limits moment m) t keep sent does packet count there =
    let own : Packet = record { client = sender m; answer = does.told } in
    elim (Contains-push_cases c.server.withheld (own, rests_on does.told (length (made t).entries))
    (packet, count) (subst (λ (u : Server). Contains u.withheld (packet, count)) does.rest there)) [
      | inl old ↦ keep.held packet count old
      | inr new ↦ subst (λ (p : Packet × ℕ). Remembers p.0.answer) new (told_remembers does.said does.told
          does.is_told
          (step_remembers c limits moment m (made t) does.said keep.kept keep.turns sent does.next))
    ]
effect_remembers c (Passed moment) t keep sent does packet count there =
    keep.held packet count (subst (λ (u : Server). Contains u.withheld (packet, count)) does.3 there)
effect_remembers c (Lacked m) t keep sent does packet count there =
    let own : Packet = record { client = sender m; answer = answers.Refused refusals.NoMemory } in
    elim (Contains-push_cases c.server.withheld (own, 0) (packet, count)
    (subst (λ (u : Server). Contains u.withheld (packet, count)) does there)) [
      | inl old ↦ keep.held packet count old
      | inr new ↦ lack_remembers packet.answer (sym (ap (λ (p : Packet × ℕ). p.0.answer) new))
    ]
effect_remembers c (Stored stored) t keep sent does packet count there =
    keep.held packet count (subst (λ (u : Server). Contains u.withheld (packet, count)) does.2 there)
effect_remembers c (Crashed left) t keep sent does packet count there =
    absurd (nothing_there (packet, count) (subst (λ (u : Server). Contains u.withheld (packet, count)) does
    there))

leaves_held : (e : Event) (s t : Server) → LeavesServer e s t
    → ((packet : Packet) (count : ℕ) → Contains s.withheld (packet, count) → Remembers packet.answer)
    → (packet : Packet) (count : ℕ) → Contains t.withheld (packet, count) → Remembers packet.answer
leaves_held (event.ToServer packet moment) s t none held = absurd none
leaves_held (event.NewEpoch epoch) s t new held = λ packet count there. absurd (nothing_there (packet, count)
    (subst (λ (u : Server). Contains u.withheld (packet, count)) new there))
leaves_held (event.Start client incarnation version) s t same held = λ packet count there. held packet count
    (subst (λ (u : Server). Contains u.withheld (packet, count)) same there)
leaves_held (event.Begin client call) s t same held = λ packet count there. held packet count
    (subst (λ (u : Server). Contains u.withheld (packet, count)) same there)
leaves_held (event.Resend client) s t same held = λ packet count there. held packet count
    (subst (λ (u : Server). Contains u.withheld (packet, count)) same there)
leaves_held (event.CancelSent client) s t same held = λ packet count there. held packet count
    (subst (λ (u : Server). Contains u.withheld (packet, count)) same there)
leaves_held (event.Crash client) s t same held = λ packet count there. held packet count
    (subst (λ (u : Server). Contains u.withheld (packet, count)) same there)
leaves_held (event.ToClient number) s t same held = λ packet count there. held packet count
    (subst (λ (u : Server). Contains u.withheld (packet, count)) same there)

module _ (effects : EffectsKeepServers) (sends : SentIsStored) where
  occurs_remembers : (c : CrashWorld) (o : Occurrence) (d : CrashWorld) → IsRemembering c → Occurs c o d
      → IsRemembering d
  occurs_remembers c (AtServer effect) d keep is = record {
    kept = (occurs_leads effects sends c (AtServer effect) d keep.kept is).kept;
    turns = subst (λ (w : World). KeepTurns (record w { present = d.server.stored })) (sym is.2)
        (turns_at (stored_world c) d.server.stored keep.turns);
    held = effect_remembers c effect d.server keep is.0 is.1;
    sent = λ packet there. keep.sent packet (subst (λ (w : World). Contains w.to_client packet) is.2 there);
  }
  occurs_remembers c (Sends packet) d keep is =
      let kept = (occurs_leads effects sends c (Sends packet) d keep.kept is).kept in
      let turns : KeepTurns (stored_world d) = subst (λ (b : CrashWorld). KeepTurns (stored_world b))
      (sym is.1)
      (turns_sent (stored_world c) (packet ∷ []) keep.turns) in
      let of_packet : Remembers packet.answer = keep.held packet is.0.0 is.0.2 in
      record {
        kept = kept;
        turns = turns;
        held = λ other count there. keep.held other count
            (subst (λ (b : CrashWorld). Contains b.server.withheld
            (other, count)) is.1 there);
        sent = λ other there. elim (Contains-push_cases c.around.to_client packet other
            (subst (λ (b : CrashWorld). Contains b.around.to_client other) is.1 there)) [
              | inl old ↦ keep.sent other old
              | inr new ↦ subst (λ (p : Packet). Remembers p.answer) new of_packet
            ];
      }
  occurs_remembers c (Outside e) d keep is =
      let outside : IsOutside (stored_world c) d.around d.server = outside_is c e d.around is.0 d.server is.1
      is.2 in
      record {
        kept = (occurs_leads effects sends c (Outside e) d keep.kept is).kept;
        turns = turns_at d.around d.server.stored (steps_turns (stored_world c) e d.around is.0
            keep.kept.sound
            keep.turns (λ packet moment same. subst (λ (f : Event). LeavesServer f c.server d.server) same
            is.2) is.1);
        held = leaves_held e c.server d.server is.2 keep.held;
        sent = λ packet there. keep.sent packet (subst (λ (list : List Packet). Contains list packet)
            outside.answers_stay there);
      }

  runs_remember : (c : CrashWorld) (occurrences : List Occurrence) (d : CrashWorld) → IsRemembering c
      → RunsAcross c occurrences d → IsRemembering d
  runs_remember c [] d keep same = subst IsRemembering (sym same) keep
  runs_remember c (o ∷ occurrences) d keep runs = runs_remember runs.0 occurrences d (occurs_remembers c o
      runs.0 keep
      runs.1) runs.2

  pub remembered_after : (epoch : ℕ) (occurrences : List Occurrence) (c : CrashWorld)
      → RunsAcross (first_crash_world epoch) occurrences c → IsRemembering c
  remembered_after epoch occurrences c runs = runs_remember (first_crash_world epoch) occurrences c (record {
    kept = first_kept epoch;
    turns = first_turns epoch;
    held = λ packet count there. absurd (nothing_there (packet, count) there);
    sent = λ packet there. absurd (nothing_there packet there);
  }) runs
