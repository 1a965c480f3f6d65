-- What each effect of a server keeps, whatever messages came.
use Rattle.rv_world.proofs.OfParts.Words.{◌≡◌, ◌⊎◌, ◌<◌, ◌≤◌, ◌+◌, ◌++◌, ◌∷◌, ◌∙◌, inl, inr, ℕ, List, []}
use Rattle.rv_world.proofs.OfParts.Words.{length, refl, sym, ap, subst, arith, none-some, same_Some, Some}
use Rattle.rv_world.proofs.OfParts.Words.{Version, Contains, Contains-push_cases, Account, Answer, Legal}
use Rattle.rv_world.proofs.OfParts.Words.{Message, NextUnder, StepLimits, Ticks, ArrivesAt, sender}
use Rattle.std.specs.Prelude.{drop, take}
use Rattle.std.proofs.lemmas.List.{take-append-drop}
use Rattle.std.proofs.Math.Seq.{take-append-add}
use Rattle.rv_text.specs.declared.answer.Answer.TheVariants as answers
use Rattle.rv_text.specs.declared.answer.Refusal.TheVariants as refusals
use Rattle.rv_account.specs.Account.{Extends, act_at, own_moment, with_entry}
use Rattle.rv_account.specs.declared.entry.Act.TheVariants as act
use Rattle.rv_account.specs.declared.entry.Act.{Act}
use Rattle.rv_text.specs.declared.message.Message.TheVariants as message
use Rattle.rv_account.specs.rules.Steps.{Adds, step_moment}
use Rattle.rv_account.proofs.OfRules.StepLeaves.{own_act}
use Rattle.rv_account.specs.declared.entry.Act.TheVariants.{Arrive}
use Rattle.rv_account.specs.rules.Legal.{before}
use Rattle.rv_account.specs.rules.Resting.{rests_on}
use Rattle.rv_account.proofs.OfRules.Fronts.{Legal-before, read_whole}
use Rattle.rv_account.proofs.OfRules.Growing.{act_read, reads_back}
use Rattle.rv_account.proofs.OfState.Extending.{extends_itself, steps_extend_under, ticks_extend}
use Rattle.rv_account.proofs.OfState.StateLaws.{ticks_move}
use Rattle.rv_world.specs.declared.parts.packet.Packet.{Packet}
use Rattle.rv_world.specs.parts.Events.{IsTold}
use Rattle.rv_world.specs.parts.World.{first_world}
use Rattle.rv_world.proofs.OfParts.Answered.{became_at, next_arrives, next_legal, ticked_arrives}
use Rattle.rv_world.proofs.OfParts.Epochs.{empty_legal}
use Rattle.rv_world.proofs.OfParts.Growth.{goes_on_itself}
use Rattle.rv_store.specs.servers.crashes.Crashes.{Server, made, server_in, withholds}
use Rattle.rv_store.specs.servers.crashes.Laws.{IsHeldRightly, IsHeldStep, IsServer, KeepsServer}
use Rattle.rv_store.proofs.OfServers.OfCrashes.Fronts.{front_extends, held_step, made_extends, rightly_before}
use Rattle.rv_store.proofs.OfServers.OfCrashes.Fronts.{rightly_on, with_all}

pub nothing_there : {X : Type 0} (x : X) → Contains [] x → ⊥
nothing_there x there = let inside : there.0 < 0 = there.1 in omega arith

-- ---- a server begins

pub begins : (messages : List Message) (epoch : ℕ) → IsServer messages (server_in epoch)
begins messages epoch = record {
  legal = (empty_legal (first_world epoch) epoch).legal;
  arrivals = λ r key call arrived. absurd (none-some _ arrived);
  hellos = λ r client incarnation version hello. absurd (none-some _ hello);
  answers = λ packet count there. absurd (nothing_there (packet, count) there);
}

-- ---- what stays

stays_stored : (s t : Server) → t.stored ≡ s.stored → Extends s.stored t.stored
stays_stored s t same = subst (Extends s.stored) (sym same) (extends_itself s.stored)

-- one that made the same, where each answer was held back or is want of memory
same_made : (messages : List Message) (s t : Server) → IsServer messages s → made t ≡ made s
    → ((packet : Packet) (count : ℕ) → Contains t.withheld (packet, count)
    → (packet.answer ≡ answers.Refused refusals.NoMemory) ⊎ Contains s.withheld (packet, count))
    → IsServer messages t
same_made messages s t server same held = record {
  legal = subst Legal (sym same) server.legal;
  arrivals = λ r key call arrived. server.arrivals r key call (subst (λ (a : Account). ArrivesAt a.entries key
      r
      call) same arrived);
  hellos = λ r client incarnation version hello. server.hellos r client incarnation version
      (subst (λ (a : Account).
      act_at a.entries r ≡ Some (act.Hello client incarnation version)) same hello);
  answers = λ packet count there. elim (held packet count there) [
    | inl none ↦ inl none
    | inr old ↦ subst (λ (a : Account). IsHeldRightly messages a packet count) (sym same)
        (server.answers packet
        count old)
  ];
}

-- ---- entries that are new

act_back : (a b : Account) (moment : ℕ) (does : Act) (r : ℕ) (x : Act) → Adds a moment does b
    → act_at b.entries r ≡ Some x → (act_at a.entries r ≡ Some x) ⊎ (does ≡ x)
act_back a b moment does r x added there =
    let on : act_at (with_entry a added.entry).entries r ≡ Some x = subst (λ (d : Account). act_at d.entries r
    ≡ Some x) added.follows there in
    elim (reads_back act_read refl a.entries added.entry r x on) [
      | inl old ↦ inl old.1
      | inr last ↦ inr (sym added.act_is ∙ same_Some _ _ last.1)
    ]

pub ticked_act : (a t : Account) (moment r : ℕ) (x : Act) → Ticks a moment t → act_at t.entries r ≡ Some x
    → (act_at a.entries r ≡ Some x) ⊎ (act.Tick ≡ x)
ticked_act a t moment r x (inl ticks) there = act_back a t moment act.Tick r x ticks.1 there
ticked_act a t moment r x (inr same) there = inl (subst (λ (d : Account). act_at d.entries r ≡ Some x) same.1
    there)

no_tick : (client incarnation : ℕ) (version : Version) → act.Tick ≡ act.Hello client incarnation version → ⊥
no_tick client incarnation version is = cc

hello_of_own : (m : Message) (client incarnation : ℕ) (version : Version)
    → own_act m ≡ act.Hello client incarnation version → m ≡ message.Hello client incarnation version
hello_of_own (message.Hello c i v) client incarnation version is = cc
hello_of_own (message.Request key call) client incarnation version is = absurd (let no : ⊥ = cc in no)
hello_of_own (message.Cancel key) client incarnation version is = absurd (let no : ⊥ = cc in no)

-- a hello that time brought was there before
ticked_hello : (a t : Account) (moment r client incarnation : ℕ) (version : Version) → Ticks a moment t
    → act_at t.entries r ≡ Some (act.Hello client incarnation version)
    → act_at a.entries r ≡ Some (act.Hello client incarnation version)
ticked_hello a t moment r client incarnation version ticks there =
    elim (ticked_act a t moment r (act.Hello client
    incarnation version) ticks there) [
      | inl old ↦ old
      | inr tick ↦ absurd (no_tick client incarnation version tick)
    ]

-- one that a step brought is its message's
next_hello : (limits : StepLimits) (a b : Account) (now : ℕ) (m : Message) (said : Answer)
    (r client incarnation : ℕ) (version : Version) → NextUnder limits a now m b said
    → act_at b.entries r ≡ Some (act.Hello client incarnation version)
    → (act_at a.entries r ≡ Some (act.Hello client incarnation version))
    ⊎ (m ≡ message.Hello client incarnation version)
next_hello limits a b now m said r client incarnation version next there =
    let t : Account = next.ticked in
    let at : ℕ = step_moment a now in
    elim (became_at limits t b at m said next.steps).account [
      | inl same ↦ inl (ticked_hello a t at r client incarnation version next.ticks
          (subst (λ (d : Account). act_at
          d.entries r ≡ Some (act.Hello client incarnation version)) same there))
      | inr added ↦ elim (act_back t b at (own_act m) r (act.Hello client incarnation version) added there) [
        | inl old ↦ inl (ticked_hello a t at r client incarnation version next.ticks old)
        | inr new ↦ inr (hello_of_own m client incarnation version new)
      ]
    ]

-- ---- a step, and time alone

rests_all : (told : Answer) (n : ℕ) → (told ≡ answers.Refused refusals.NoMemory) ⊎ (rests_on told n ≡ n)
rests_all (answers.Refused refusals.NoMemory) n = inl refl
rests_all _ n = inr refl

pub stepped : (messages : List Message) (s t : Server) (limits : StepLimits) (moment : ℕ) (message : Message)
    (said told : Answer) → IsServer messages s → Contains messages message
    → NextUnder limits (made s) moment message (made t) said → IsTold said told
    → t ≡ record s {
      unstored = t.unstored;
      withheld = s.withheld ++ (
        record { client = sender message; answer = told },
        rests_on told
            (length (made t).entries),
      ) ∷ [];
    }
    → KeepsServer messages s t
stepped messages s t limits moment message said told server sent next is_told rest =
    let extends : Extends (made s) (made t) = steps_extend_under limits (made s) (made t) moment message said
    next in
    let late : ℕ = length (made t).entries in
    let own : Packet = record { client = sender message; answer = told } in
    let held : IsHeldStep messages (made t) own late = held_step messages (made s) (made t) limits moment
    message
    said told sent extends next is_told in
    record {
      server = record {
        legal = next_legal limits (made s) (made t) moment message said server.legal next;
        arrivals = λ r key call arrived. elim (next_arrives limits (made s) (made t) moment message said r key
            call
            next arrived) [
              | inl old ↦ server.arrivals r key call old
              | inr new ↦ subst (Contains messages) new sent
            ];
        hellos = λ r client incarnation version hello. elim (next_hello limits (made s) (made t) moment
            message said
            r client incarnation version next hello) [
              | inl old ↦ server.hellos r client incarnation version old
              | inr new ↦ subst (Contains messages) new sent
            ];
        answers = λ packet count there. elim (Contains-push_cases s.withheld (own, rests_on told late)
            (packet, count) (subst (λ (u : Server). Contains u.withheld (packet, count)) rest there)) [
              | inl old ↦ rightly_on messages messages (made s) (made t) packet count
                  (goes_on_itself messages)
                  extends
                  (server.answers packet count old)
              | inr new ↦ elim (rests_all told late) [
                | inl none ↦ inl (sym (ap (λ (p : Packet × ℕ). p.0.answer) new) ∙ none)
                | inr all ↦ inr (subst (λ (p : Packet × ℕ). IsHeldStep messages (made t) p.0 p.1) new
                    (subst (IsHeldStep messages (made t) own) (sym all) held))
              ]
            ];
      };
      stored = stays_stored s t (ap (λ (u : Server). u.stored) rest);
    }

pub passed : (messages : List Message) (s t : Server) (moment : ℕ) → IsServer messages s
    → own_moment (made s) ≤ moment → Ticks (made s) moment (made t) → t ≡ record s { unstored = t.unstored }
    → KeepsServer messages s t
passed messages s t moment server not_before ticks rest = record {
  server = record {
    legal = (ticks_move (made s) (made t) moment server.legal not_before ticks).legal;
    arrivals = λ r key call arrived. server.arrivals r key call (ticked_arrives (made s) (made t) moment r key
        call
        ticks arrived);
    hellos = λ r client incarnation version hello. server.hellos r client incarnation version
        (ticked_hello (made s)
        (made t) moment r client incarnation version ticks hello);
    answers = λ packet count there. rightly_on messages messages (made s) (made t) packet count
        (goes_on_itself messages) (ticks_extend (made s) (made t) moment ticks) (server.answers packet count
        (subst (λ (u : Server). Contains u.withheld (packet, count)) rest there));
  };
  stored = stays_stored s t (ap (λ (u : Server). u.stored) rest);
}

-- ---- want of memory with no step

pub lacked : (messages : List Message) (s t : Server) (message : Message) → IsServer messages s
    → t ≡ record s { withheld = withholds s message (answers.Refused refusals.NoMemory) 0 }
    → KeepsServer messages s t
lacked messages s t message server rest =
    let own : Packet = record { client = sender message; answer = answers.Refused refusals.NoMemory } in
    record {
      server = same_made messages s t server (ap made rest) (λ packet count there.
          elim (Contains-push_cases s.withheld (own, 0) (packet, count)
          (subst (λ (u : Server). Contains u.withheld (packet, count)) rest there)) [
            | inl old ↦ inr old
            | inr new ↦ inl (sym (ap (λ (p : Packet × ℕ). p.0.answer) new))
          ]);
      stored = stays_stored s t (ap (λ (u : Server). u.stored) rest);
    }

-- ---- entries are stored, and a crash

pub stores : (messages : List Message) (s t : Server) (count : ℕ) → IsServer messages s
    → length s.stored.entries ≤ count
    → t ≡ record s { stored = before (made s) count; unstored = drop count (made s).entries }
    → KeepsServer messages s t
stores messages s t count server long rest =
    let whole : with_all s.stored (take count (made s).entries ++ drop count (made s).entries) ≡ made s =
    ap (with_all s.stored) (take-append-drop count (made s).entries) in
    record {
      server = same_made messages s t server (ap made rest ∙ whole) (λ packet rests there.
          inr (subst (λ (u : Server). Contains u.withheld (packet, rests)) rest there));
      stored = subst (λ (u : Server). Extends s.stored u.stored) (sym rest) (front_extends s count long);
    }

pub crashed : (messages : List Message) (s t : Server) (left : ℕ) → IsServer messages s
    → t ≡ record s { unstored = take left s.unstored; withheld = [] } → KeepsServer messages s t
crashed messages s t left server rest =
    let kept : ℕ = length s.stored.entries + left in
    let front : made t ≡ before (made s) kept = ap made rest
    ∙ ap (with_all s.stored) (sym (take-append-add s.stored.entries s.unstored left)) in
    record {
      server = record {
        legal = subst Legal (sym front) (Legal-before (made s) kept server.legal);
        arrivals = λ r key call arrived. server.arrivals r key call (read_whole act_read refl (made s).entries
            kept r
            (Arrive key call) (subst (λ (a : Account). ArrivesAt a.entries key r call) front arrived)).1;
        hellos = λ r client incarnation version hello. server.hellos r client incarnation version
            (read_whole act_read
            refl (made s).entries kept r (act.Hello client incarnation version)
            (subst (λ (a : Account). act_at
            a.entries r ≡ Some (act.Hello client incarnation version)) front hello)).1;
        answers = λ packet count there. absurd (nothing_there (packet, count)
            (subst (λ (u : Server). Contains u.withheld (packet, count)) rest there));
      };
      stored = stays_stored s t (ap (λ (u : Server). u.stored) rest);
    }

-- ---- an answer that may be sent

pub may_go : (messages : List Message) (s : Server) (packet : Packet) (count : ℕ) → IsServer messages s
    → count ≤ length s.stored.entries → Contains s.withheld (packet, count)
    → IsHeldRightly messages s.stored packet count
may_go messages s packet count server short there = rightly_before messages s.stored (made s) packet count
    (made_extends s) short (server.answers packet count there)
