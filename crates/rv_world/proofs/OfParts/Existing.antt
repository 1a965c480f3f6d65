-- A step is there under whatever limits wherever no refusal is due; and time can pass.
use Rattle.rv_world.proofs.OfParts.Words.{◌≡◌, ◌≢◌, ◌+◌, ◌<◌, ◌∷◌, ◌++◌, ◌∙◌, inl, inr, ℕ, List, [], Option}
use Rattle.rv_world.proofs.OfParts.Words.{Some, None, Bool, true, cond, nat_eq, length, refl, sym, ap, arith}
use Rattle.rv_world.proofs.OfParts.Words.{option_and_then, lookup, nat_tests, Version, Key, Message, Call}
use Rattle.rv_world.proofs.OfParts.Words.{Answer, Reply, Legal, StepLimits, same_or_not, Process, New, Idle}
use Rattle.rv_world.proofs.OfParts.Words.{Outstanding, Starting, Asking, Hears, first_key, key_after}
use Rattle.rv_world.proofs.OfParts.Words.{cancel_of, hello_of, request_of, Outcome, Welcomed, TurnedAway}
use Rattle.rv_world.proofs.OfParts.Words.{Settled, EpochEnded, Replaced, Ignored, Event, Packet, Seen}
use Rattle.rv_world.proofs.OfParts.Words.{WorldRefusal, World, accounts, empty_account, process_of}
use Rattle.rv_world.proofs.OfParts.Words.{ChangesProcess, ComesTo, IsAsking, OnlyChangesProcess, ProcessSays}
use Rattle.rv_world.proofs.OfParts.Words.{RefusalDue, RunsBut, RunsNone, StepsUnder, WorldBecomes, sender}
use Rattle.rv_world.proofs.OfParts.Words.{with_message, start_of}
use Rattle.std.specs.Prelude.{slice_get}
use Rattle.std.proofs.lemmas.Bool.{cases_lt}
use Rattle.std.proofs.lemmas.List.{append_cancel_left, length-append}
use Rattle.rv_text.specs.declared.answer.Refusal.{Refusal}
use Rattle.rv_account.proofs.OfRules.Deciding.{key_or_other}
use Rattle.rv_account.proofs.OfState.DueDecided.{same_version}
use Rattle.rv_account.proofs.OfState.CanEnter.{next_exists_under}
use Rattle.rv_account.proofs.OfState.StateLaws.{ticks_step}
use Rattle.rv_client.specs.Process.{SaysNothingFinal}
use Rattle.rv_world.specs.parts.Events.{next_answer, next_message}
use Rattle.rv_world.specs.parts.Laws.{CanStepUnder, SentNoMemory, StepsExistUnder, TimeCanPass}
use Rattle.rv_world.proofs.OfParts.TableWrites.{apart_from}
use Rattle.rv_text.specs.declared.answer.Answer.TheVariants as answers
use Rattle.rv_text.specs.declared.answer.Refusal.TheVariants as refusals
use Rattle.rv_world.specs.declared.parts.event.Event.TheVariants as event
use Rattle.rv_world.specs.declared.parts.seen.Seen.TheVariants as sees
use Rattle.rv_world.specs.declared.parts.seen.WorldRefusal.TheVariants as refuses

-- ---- what a process makes of an answer

record CanHear (process : Process) (answer : Answer) : Type 0 where
  outcome : Outcome
  hears : Hears process answer outcome

-- a welcome that is not for it
passes_welcome : (s : Starting) (epoch client incarnation : ℕ) (version : Version)
    → (client ≡ s.client → incarnation ≡ s.incarnation → version ≡ s.version → ⊥)
    → CanHear (New s) (answers.Welcome epoch client incarnation version)
passes_welcome s epoch client incarnation version apart = record {
  outcome = Ignored (New s);
  hears = (
    record {
      no_welcome = λ e is. apart (same_client e is) (same_incarnation e is) (versions e is);
      no_refusal = λ refusal is. cc;
    },
    refl,
  );
}
  where
    same_client : (e : ℕ) → answers.Welcome epoch client incarnation version ≡ answers.Welcome e s.client
        s.incarnation s.version → client ≡ s.client
    same_client e is = cc

    same_incarnation : (e : ℕ) → answers.Welcome epoch client incarnation version ≡ answers.Welcome e s.client
        s.incarnation s.version → incarnation ≡ s.incarnation
    same_incarnation e is = cc

    versions : (e : ℕ) → answers.Welcome epoch client incarnation version ≡ answers.Welcome e s.client
        s.incarnation s.version → version ≡ s.version
    versions e is = cc

welcome_heard : (s : Starting) (epoch client incarnation : ℕ) (version : Version)
    → CanHear (New s) (answers.Welcome epoch client incarnation version)
welcome_heard s epoch client incarnation version = elim (same_or_not client s.client) [
  | inr apart ↦ passes_welcome s epoch client incarnation version (λ one other third. apart one)
  | inl one ↦ elim (same_or_not incarnation s.incarnation) [
    | inr apart ↦ passes_welcome s epoch client incarnation version (λ one other third. apart other)
    | inl other ↦ elim (same_version version s.version) [
      | inr apart ↦ passes_welcome s epoch client incarnation version (λ one other third. apart third)
      | inl third ↦ record { outcome = Welcomed (Some (first_key s epoch)); hears = (epoch, cc, refl) }
    ]
  ]
]

passes_by : (s : Starting) (answer : Answer)
    → ((e : ℕ) → answer ≢ answers.Welcome e s.client s.incarnation s.version)
    → ((refusal : Refusal) → answer ≢ answers.Refused refusal) → CanHear (New s) answer
passes_by s answer no_welcome no_refusal = record {
  outcome = Ignored (New s);
  hears =
      (record { no_welcome = no_welcome; no_refusal = no_refusal }, refl);
}

new_hears : (s : Starting) (answer : Answer) → CanHear (New s) answer
new_hears s (answers.Welcome epoch client incarnation version) = welcome_heard s epoch client incarnation
    version
new_hears s (answers.Replied key told) = passes_by s (answers.Replied key told) (λ e is. cc)
    (λ refusal is. cc)
new_hears s (answers.Waiting key) = passes_by s (answers.Waiting key) (λ e is. cc) (λ refusal is. cc)
new_hears s (answers.Refused refusal) = record { outcome = TurnedAway s refusal; hears = (refl, refl) }

says_nothing : (asking : Asking) (answer : Answer) → SaysNothingFinal asking.key answer
    → CanHear (Outstanding asking) answer
says_nothing asking answer nothing = record {
  outcome = Ignored (Outstanding asking);
  hears = (nothing, refl);
}

other_key : (key same : Key) (told also : Reply) → answers.Replied key told ≡ answers.Replied same also
    → key ≡ same
other_key key same told also e = cc

other_current : (n m : ℕ) → answers.Refused (refusals.OtherEpoch n) ≡ answers.Refused (refusals.OtherEpoch m)
    → n ≡ m
other_current n m e = cc

old_current : (n m : ℕ) → answers.Refused (refusals.OldIncarnation n) ≡ answers.Refused
    (refusals.OldIncarnation m) → n ≡ m
old_current n m e = cc

-- an answer that is neither a reply nor one of the two refusals
no_reply : (asking : Asking) (answer : Answer)
    → ((key : Key) (told : Reply) → answer ≢ answers.Replied key told)
    → ((n : ℕ) → answer ≢ answers.Refused (refusals.OtherEpoch n))
    → ((n : ℕ) → answer ≢ answers.Refused (refusals.OldIncarnation n))
    → CanHear (Outstanding asking) answer
no_reply asking answer replies epoch incarnation =
    says_nothing asking answer (record {
      no_reply = λ told is. replies asking.key told is;
      no_epoch =
          λ n is. epoch n is.0;
      no_incarnation = λ n is. incarnation n is.0;
    })

refused_hears : (asking : Asking) (refusal : Refusal) → CanHear (Outstanding asking) (answers.Refused refusal)
refused_hears asking (refusals.OtherEpoch current) = elim (cases_lt asking.key.epoch current) [
  | inl less ↦ record { outcome = EpochEnded asking.key current; hears = ((refl, less), refl) }
  | inr not ↦ says_nothing asking (answers.Refused (refusals.OtherEpoch current)) (record {
    no_reply = λ told is. cc;
    no_epoch = λ n is. let same : current ≡ n = other_current current n is.0 in let less : asking.key.epoch <
        n = is.1 in omega (arith, not, same, less);
    no_incarnation = λ n is. let e = is.0 in cc;
  })
]
refused_hears asking (refusals.OldIncarnation current) = elim (cases_lt asking.key.incarnation current) [
  | inl less ↦ record { outcome = Replaced asking.key current; hears = ((refl, less), refl) }
  | inr not ↦ says_nothing asking (answers.Refused (refusals.OldIncarnation current)) (record {
    no_reply = λ told is. cc;
    no_epoch = λ n is. let e = is.0 in cc;
    no_incarnation = λ n is. let same : current ≡ n = old_current current n is.0 in let less :
        asking.key.incarnation < n = is.1 in omega (arith, not, same, less);
  })
]
refused_hears asking refusal = no_reply asking (answers.Refused refusal) (λ key told is. cc) (λ n is. cc)
    (λ n is. cc)

asking_hears : (asking : Asking) (answer : Answer) → CanHear (Outstanding asking) answer
asking_hears asking (answers.Welcome epoch client incarnation version) = no_reply asking
    (answers.Welcome epoch client incarnation version) (λ key told is. cc) (λ n is. cc) (λ n is. cc)
asking_hears asking (answers.Waiting key) = no_reply asking (answers.Waiting key) (λ key told is. cc)
    (λ n is. cc) (λ n is. cc)
asking_hears asking (answers.Refused refusal) = refused_hears asking refusal
asking_hears asking (answers.Replied key told) = elim (key_or_other key asking.key) [
  | inl same ↦ record {
    outcome = Settled (key_after asking.key) told;
    hears =
        (ap (λ (k : Key). answers.Replied k told) same, refl);
  }
  | inr apart ↦ says_nothing asking (answers.Replied key told) (record {
    no_reply = λ also is. apart (other_key key asking.key told also is);
    no_epoch = λ n is. let e = is.0 in cc;
    no_incarnation = λ n is. let e = is.0 in cc;
  })
]

hears : (process : Process) (answer : Answer) → CanHear process answer
hears (New starting) answer = new_hears starting answer
hears (Idle next) answer = record { outcome = Ignored (Idle next); hears = refl }
hears (Outstanding asking) answer = asking_hears asking answer

-- ---- worlds

-- the world in which this process of the client runs, or none
abbrev turned : World → ℕ → Option Process → World
turned w client process = record w { clients = (client, process) ∷ w.clients }

tests_itself : (client : ℕ) → nat_eq client client ≡ true
tests_itself client = grind (arith, nat_tests)

turned_own : (w : World) (client : ℕ) (process : Option Process)
    → process_of (turned w client process) client ≡ process
turned_own w client process =
    ap (λ (b : Bool). option_and_then (λ (p : Option Process). p) (cond b (Some process)
    (lookup (nat_eq client) w.clients))) (tests_itself client)

turned_other : (w : World) (client other : ℕ) (process : Option Process) → other ≢ client
    → process_of (turned w client process) other ≡ process_of w other
turned_other w client other process apart =
    ap (λ (b : Bool). option_and_then (λ (p : Option Process). p) (cond b (Some process)
    (lookup (nat_eq other) w.clients)))
    (apart_from client other client apart (tests_itself client))

only_turned : (w v : World) (client : ℕ) (process : Option Process)
    → v.clients ≡ (client, process) ∷ w.clients → OnlyChangesProcess w v client process
only_turned w v client process is = record {
  own = read client ∙ turned_own w client process;
  others = λ other apart. read other ∙ turned_other w client other process apart;
}
  where
    read : (c : ℕ) → process_of v c ≡ process_of (turned w client process) c
    read c = ap (λ (cs : List (ℕ × Option Process)). option_and_then (λ (p : Option Process). p)
        (lookup (nat_eq c) cs)) is

-- no answer was sent
quiet : (w v : World) → v.to_client ≡ w.to_client → ¬ SentNoMemory w v
quiet w v same sent =
    let more : List Packet = record { client = sent.client; answer = answers.Refused refusals.NoMemory } ∷ []
    in
    let longer : length w.to_client ≡ length w.to_client + 1 = ap (λ (l : List Packet). length l) (sym same
    ∙ sent.sent) ∙ length-append w.to_client more in
    omega (arith, longer)

-- one was, and it was no want of memory
told : (w v : World) (client : ℕ) (x : Answer)
    → v.to_client ≡ w.to_client ++ record { client = client; answer = x } ∷ []
    → x ≢ answers.Refused refusals.NoMemory → ¬ SentNoMemory w v
told w v client x is ample sent = ample (ap (λ (p : Packet). p.answer)
    (same_packet _ _ (append_cancel_left w.to_client _ _ (sym is ∙ sent.sent))))
  where
    same_packet : (p q : Packet) → p ∷ [] ≡ q ∷ [] → p ≡ q
    same_packet p q e = cc

-- ---- an answer comes to its client

record CanBecome (w : World) (client : ℕ) (answer : Answer) (outcome : Outcome) : Type 0 where
  after : World
  shows : Seen
  becomes : WorldBecomes w client answer outcome after shows
  is_quiet : after.to_client ≡ w.to_client

changes : (w : World) (client : ℕ) (process : Option Process)
    → ChangesProcess w client process (turned w client process)
changes w client process = record {
  changes = only_turned w (turned w client process) client process refl;
  rest = refl;
}

becomes : (w : World) (client : ℕ) (process : Process) (answer : Answer) (outcome : Outcome)
    → Hears process answer outcome → CanBecome w client answer outcome
becomes w client process answer (Welcomed next) is = record {
  after = turned w client (Some (Idle next));
  shows = sees.Welcomed;
  becomes = (changes w client _, refl);
  is_quiet = refl;
}
becomes w client process answer (TurnedAway same refusal) is =
    record {
      after = turned w client (Some (New same));
      shows = sees.TurnedAway refusal;
      becomes =
          (changes w client _, refl);
      is_quiet = refl;
    }
becomes w client (New starting) answer (Settled next reply) is = absurd is
becomes w client (Idle other) answer (Settled next reply) is = absurd is
becomes w client (Outstanding asking) answer (Settled next reply) is =
    let v : World = record w {
      clients = (client, Some (Idle next)) ∷ w.clients;
      held =
          w.held ++ (asking.key, reply) ∷ [];
    } in
    record {
      after = v;
      shows = sees.Settled asking.key;
      becomes = record {
        key = asking.key;
        settles = is.0;
        changes = only_turned w v client _ refl;
        rest =
            refl;
        shown = refl;
      };
      is_quiet = refl;
    }
becomes w client process answer (EpochEnded key current) is = record {
  after = turned w client None;
  shows =
      sees.Ended current;
  becomes = (changes w client _, refl);
  is_quiet = refl;
}
becomes w client process answer (Replaced key current) is = record {
  after = turned w client None;
  shows =
      sees.Replaced current;
  becomes = (changes w client _, refl);
  is_quiet = refl;
}
becomes w client process answer (Ignored same) is = record {
  after = w;
  shows = sees.Ignored;
  becomes =
      (refl, refl);
  is_quiet = refl;
}

record CanCome (process : Option Process) (w : World) (packet : Packet) : Type 0 where
  after : World
  shows : Seen
  comes : ComesTo process w packet after shows
  is_quiet : after.to_client ≡ w.to_client

can_come : (process : Option Process) (w : World) (packet : Packet) → CanCome process w packet
can_come None w packet = record { after = w; shows = sees.Ignored; comes = (refl, refl); is_quiet = refl }
can_come (Some process) w packet =
    let heard = hears process packet.answer in
    let can = becomes w packet.client process packet.answer heard.outcome heard.hears in
    record {
      after = can.after;
      shows = can.shows;
      comes = record {
        outcome = heard.outcome;
        hears =
            heard.hears;
        becomes = can.becomes;
      };
      is_quiet = can.is_quiet;
    }

-- ---- events

abbrev NoRefusalDue : World → Event → Type 0
NoRefusalDue w e = (refusal : WorldRefusal) → ¬ RefusalDue w e refusal

can_start : (limits : StepLimits) (w : World) (client incarnation : ℕ) (version : Version)
    → NoRefusalDue w (event.Start client incarnation version)
    → CanStepUnder limits w (event.Start client incarnation version)
can_start limits w client incarnation version nothing =
    let v : World = with_message (record w {
      clients = (client, Some (New (start_of client incarnation version))) ∷ w.clients;
      started = w.started ++ (client, incarnation) ∷ [];
    }) (hello_of (start_of client incarnation version)) in
    record {
      after = v;
      shows = next_message w;
      steps = record {
        newest = λ earlier there. elim (cases_lt earlier incarnation) [
          | inl less ↦ less
          | inr not ↦ absurd (nothing refuses.IncarnationNotGreater (
            record {
              other = earlier;
              there = there;
              reaches = omega (arith, not);
            },
            refl,
          ))
        ];
        changes = only_turned w v client _ refl;
        rest = refl;
        shown = refl;
      };
      not_sent = quiet w v refl;
    }

can_begin : (limits : StepLimits) (w : World) (client : ℕ) (call : Call)
    → NoRefusalDue w (event.Begin client call) → (process : Option Process)
    → process_of w client ≡ process → CanStepUnder limits w (event.Begin client call)
can_begin limits w client call nothing None is = absurd (nothing refuses.NoSuchClient (inl (is, refl)))
can_begin limits w client call nothing (Some (Idle (Some key))) is =
    let v : World = with_message (record w {
      clients = (client, Some (Outstanding (record { key = key; call = call }))) ∷ w.clients;
      asked = w.asked ++ (key, call) ∷ [];
    }) (request_of (record { key = key; call = call })) in
    record {
      after = v;
      shows = next_message w;
      steps = record {
        key = key;
        idle = is;
        changes = only_turned w v client _ refl;
        rest = refl;
        shown =
            refl;
      };
      not_sent = quiet w v refl;
    }
can_begin limits w client call nothing (Some (Idle None)) is =
    absurd (nothing refuses.NotIdle (inr (
      record {
        process = Idle None;
        runs = is;
        is_not = λ ready. let e =
            ready.1 in cc;
      },
      refl,
    )))
can_begin limits w client call nothing (Some (New starting)) is =
    absurd (nothing refuses.NotIdle (inr (
      record {
        process = New starting;
        runs = is;
        is_not =
            λ ready. let e = ready.1 in cc;
      },
      refl,
    )))
can_begin limits w client call nothing (Some (Outstanding asking)) is =
    absurd (nothing refuses.NotIdle (inr (
      record {
        process = Outstanding asking;
        runs = is;
        is_not =
            λ ready. let e = ready.1 in cc;
      },
      refl,
    )))

-- what a process says that is outstanding
can_ask : (limits : StepLimits) (w : World) (client : ℕ) (e : Event) → NoRefusalDue w e
    → ((p : WorldRefusal) → RunsNone w client p → RefusalDue w e p)
    → (RunsBut w client IsAsking → RefusalDue w e refuses.NotOutstanding)
    → (says : Asking → Message)
    → ((v : World) (s : Seen) → ProcessSays w client says v s → StepsUnder limits w e v s)
    → (process : Option Process) → process_of w client ≡ process → CanStepUnder limits w e
can_ask limits w client e nothing none but says steps None is = absurd (nothing refuses.NoSuchClient
    (none refuses.NoSuchClient (is, refl)))
can_ask limits w client e nothing none but says steps (Some (Outstanding asking)) is = record {
  after = with_message w (says asking);
  shows = next_message w;
  steps = steps _ _ (record { asking = asking; outstanding = is; after = refl; shown = refl });
  not_sent = quiet w (with_message w (says asking)) refl;
}
can_ask limits w client e nothing none but says steps (Some (New starting)) is =
    absurd (nothing refuses.NotOutstanding (but (record {
      process = New starting;
      runs = is;
      is_not =
          λ such. let e = such.1 in cc;
    })))
can_ask limits w client e nothing none but says steps (Some (Idle next)) is =
    absurd (nothing refuses.NotOutstanding (but (record {
      process = Idle next;
      runs = is;
      is_not =
          λ such. let e = such.1 in cc;
    })))

can_crash : (limits : StepLimits) (w : World) (client : ℕ) → NoRefusalDue w (event.Crash client)
    → (process : Option Process)
    → process_of w client ≡ process → CanStepUnder limits w (event.Crash client)
can_crash limits w client nothing None is = absurd (nothing refuses.NoSuchClient (is, refl))
can_crash limits w client nothing (Some process) is = record {
  after = turned w client None;
  shows = sees.Crashed;
  steps = record { process = process; runs = is; ends = changes w client None; shown = refl };
  not_sent = quiet w (turned w client None) refl;
}

can_reach_server : (limits : StepLimits) (w : World) (packet moment : ℕ) → Legal w.present
    → NoRefusalDue w (event.ToServer packet moment) → (m : Option Message) → slice_get w.to_server packet ≡ m
    → CanStepUnder limits w (event.ToServer packet moment)
can_reach_server limits w packet moment legal nothing None is = absurd (nothing refuses.NoSuchPacket
    (is, refl))
can_reach_server limits w packet moment legal nothing (Some m) is =
    let next = next_exists_under limits w.present moment m legal in
    let v : World = record w {
      present = next.after;
      to_client = w.to_client ++ record {
        client = sender m;
        answer = next.answer;
      } ∷ [];
    } in
    record {
      after = v;
      shows = next_answer w;
      steps = record {
        message = m;
        there = is;
        said = next.answer;
        next = next.next;
        told = next.answer;
        is_told = inl refl;
        rest = refl;
        shown = refl;
      };
      not_sent = told w v (sender m) next.answer refl next.in_memory;
    }

can_reach_client : (limits : StepLimits) (w : World) (packet : ℕ) → NoRefusalDue w (event.ToClient packet)
    → (sent : Option Packet)
    → slice_get w.to_client packet ≡ sent → CanStepUnder limits w (event.ToClient packet)
can_reach_client limits w packet nothing None is = absurd (nothing refuses.NoSuchPacket (is, refl))
can_reach_client limits w packet nothing (Some sent) is =
    let can = can_come (process_of w sent.client) w sent in
    record {
      after = can.after;
      shows = can.shows;
      steps = record { sent = sent; there = is; comes = can.comes };
      not_sent = quiet w can.after can.is_quiet;
    }

can_open : (limits : StepLimits) (w : World) (epoch : ℕ) → NoRefusalDue w (event.NewEpoch epoch)
    → CanStepUnder limits w (event.NewEpoch epoch)
can_open limits w epoch nothing =
    let v : World = record w { earlier = accounts w; present = empty_account epoch } in
    record {
      after = v;
      shows = sees.Opened epoch;
      steps = record {
        greater = elim (cases_lt w.present.epoch epoch) [
          | inl less ↦ less
          | inr not ↦ absurd (nothing refuses.EpochNotGreater (omega (arith, not), refl))
        ];
        after = refl;
        shown = refl;
      };
      not_sent = quiet w v refl;
    }

pub steps_exist_under : (limits : StepLimits) → StepsExistUnder limits
steps_exist_under limits w (event.Start client incarnation version) legal nothing =
    can_start limits w client incarnation version nothing
steps_exist_under limits w (event.Begin client call) legal nothing =
    can_begin limits w client call nothing (process_of w client) refl
steps_exist_under limits w (event.Resend client) legal nothing =
    can_ask limits w client (event.Resend client) nothing (λ p none. inl none) (λ but. inr (but, refl))
    request_of (λ v s says. says) (process_of w client) refl
steps_exist_under limits w (event.CancelSent client) legal nothing =
    can_ask limits w client (event.CancelSent client) nothing (λ p none. inl none) (λ but. inr (but, refl))
    cancel_of (λ v s says. says) (process_of w client) refl
steps_exist_under limits w (event.Crash client) legal nothing =
    can_crash limits w client nothing (process_of w client) refl
steps_exist_under limits w (event.ToServer packet moment) legal nothing =
    can_reach_server limits w packet moment legal nothing (slice_get w.to_server packet) refl
steps_exist_under limits w (event.ToClient packet) legal nothing =
    can_reach_client limits w packet nothing (slice_get w.to_client packet) refl
steps_exist_under limits w (event.NewEpoch epoch) legal nothing = can_open limits w epoch nothing

pub time_can_pass : TimeCanPass
time_can_pass w moment legal not_before at_most =
    let ticked = ticks_step w.present moment legal not_before in (
      record w { present = ticked.after },
      record { not_before = not_before; at_most = at_most; ticks = ticked.ticks; rest = refl },
    )
