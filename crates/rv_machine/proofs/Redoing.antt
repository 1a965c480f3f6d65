-- Where an act goes on from a state to resume from, no line of its message refuses it under the widest limits
-- but for want of memory.
use Rattle.std.proofs.Common.{◌≡◌, ◌≢◌, ◌⊎◌, ◌<◌, ◌≤◌, ◌+◌, ◌∙◌, ℕ, zero, suc, Option, Some, None, inl, inr}
use Rattle.std.proofs.Common.{subst}
use Rattle.std.proofs.Common.{sym, ap, arith, cond, is_some, [], ◌∷◌, List, max, min, refl}
use Rattle.std.specs.FinMap.{insert, len, len-insert}
use Rattle.std.specs.Cmp.{nat_cmp_total}
use Rattle.rv_text.specs.declared.call.Call.{Call}
use Rattle.rv_text.specs.declared.call.Wait.{Wait}
use Rattle.rv_text.specs.declared.call.Wait.TheVariants.{Now, Millis, Forever}
use Rattle.rv_text.specs.Calls.{wait_of}
use Rattle.rv_text.specs.declared.message.Key.{Key}
use Rattle.rv_text.specs.declared.message.Message.{Message}
use Rattle.rv_text.specs.declared.message.Message.TheVariants.{Hello, Request, Cancel}
use Rattle.rv_text.specs.declared.version.Version.{Version}
use Rattle.rv_text.specs.declared.answer.Answer.{Answer}
use Rattle.rv_text.specs.declared.answer.Answer.TheVariants.{Refused, Replied, Welcome}
use Rattle.rv_text.specs.declared.answer.Refusal.{Refusal}
use Rattle.rv_text.specs.declared.answer.Refusal.TheVariants.{NoMemory}
use Rattle.rv_text.specs.declared.answer.Reply.{Reply}
use Rattle.rv_text.specs.declared.answer.Reply.TheVariants.{Cancelled}
use Rattle.rv_account.specs.declared.entry.Act.TheVariants as act
use Rattle.rv_account.specs.Calls.{need_by, need_of}
use Rattle.rv_session.specs.Clients.{fresh_state, place_waiting}
use Rattle.rv_account.specs.state.State.{ClientState, OpenPlace, State, client_at, waiting_count}
use Rattle.rv_account.specs.state.After.{due_at, following}
use Rattle.rv_account.specs.state.Follows.{NumberIsNext, NumberWaits}
use Rattle.rv_account.specs.rules.Steps.{RefuseOr, max_moment}
use Rattle.rv_account.specs.state.Moves.{EntersMove, Move, NoEntryMoreUnder, StateKeyLines, StateNextAtUnder}
use Rattle.rv_account.specs.state.Moves.{Ticked, answer_after, answer_told, entering, state_moment, staying}
use Rattle.rv_account.specs.state.Moves.{ticked_at, ticked_if, ticking}
use Rattle.rv_account.proofs.OfState.Words.{none-some, same_Some}
use Rattle.rv_account.specs.rules.StepLimits.{StepLimits}
use Rattle.rv_machine.specs.declared.tables.Holdings.{Holdings}
use Rattle.rv_machine.specs.declared.machine.Said.{Said}
use Rattle.rv_machine.specs.declared.machine.Said.TheVariants as said
use Rattle.rv_machine.specs.declared.steps.Heard.{Heard}
use Rattle.rv_machine.specs.declared.steps.TickMade.{TickMade}
use Rattle.rv_account.specs.rules.Reach.{widest}
use Rattle.rv_machine.specs.Machines.{Says, keys_settled, state_in}
use Rattle.rv_machine.specs.Stepping.{IsHearing, IsTick}
use Rattle.rv_machine.specs.Needing.{act_of}
use Rattle.rv_machine.specs.Redoing.{MayRedo, IsRedone, NeedsNoMemory}
use Rattle.rv_machine.proofs.HelloMoves.{greeted_idle}
use Rattle.rv_account.specs.state.resume.Resuming.{CanResume}

-- it is no refusal
abbrev pub Answers : Answer → Type 0
Answers a = (r : Refusal) → a ≢ Refused r

-- the message's entry is made, or memory is lacking
abbrev pub Redoes : State → ℕ → Message → Move → Type 0
Redoes s moment m move =
    (move ≡ staying s (Refused NoMemory))
    ⊎ ((a : Answer) × Answers a × (move ≡ entering s moment (act_of m) a))

pub told_answers : (key : Key) (told : Option Reply) → Answers (answer_told key told)
told_answers key None r = λ e. cc
told_answers key (Some reply) r = λ e. cc

module _ (s : State) (key : Key) (refuses : Refusal → Type 0) (at_last above : Type 0) where
  module _ (session : ClientState) (there : client_at s key.client ≡ Some session) where
    its : (x : ClientState) → client_at s key.client ≡ Some x → x ≡ session
    its x at = same_Some _ _ (sym at ∙ there)

  -- the next number passes all lines for its key
  next_passes : NumberIsNext s key → StateKeyLines s key refuses at_last above → above
  next_passes next (inl one) = absurd (one.is_due.0 next.of_session.epoch)
  next_passes next (inr (_, inl one)) =
      let less = one.is_due.0 next.session next.of_session.there in
      let same = next.of_session.incarnation in
      absurd (omega (arith, less, same))
  next_passes next (inr (_, inr (_, inl one))) =
      let due = one.is_due in
      let is = ap (λ (x : ClientState). x.incarnation)
      (its next.session next.of_session.there due.session due.there) in
      let less = due.lower in
      let same = next.of_session.incarnation in
      absurd (omega (arith, is, less, same))
  next_passes next (inr (_, inr (_, inr (_, inl one)))) =
      let due = one.is_due in
      let is = ap (λ (x : ClientState). x.last)
      (its next.session next.of_session.there due.session due.there) in
      let number = next.next in
      absurd (elim due.old [
        | inl less ↦ omega (arith, is, number, less)
        | inr none ↦ omega (arith, number, none)
      ])
  next_passes next (inr (_, inr (_, inr (_, inr (_, inl last))))) =
      let due = last.0 in
      let is = ap (λ (x : ClientState). x.last)
      (its next.session next.of_session.there due.session due.there) in
      let number = next.next in
      let same = due.last in
      absurd (omega (arith, is, number, same))
  next_passes next (inr (_, inr (_, inr (_, inr (_, inr (_, inl one)))))) =
      let due = one.is_due in
      absurd (none-some due.place (sym next.idle
      ∙ ap (λ (x : ClientState). place_waiting x.request)
      (sym (its next.session next.of_session.there due.session due.there)) ∙ due.waits))
  next_passes next (inr (_, inr (_, inr (_, inr (_, inr (_, inr (_, inl one))))))) =
      let due = one.is_due in
      let is = ap (λ (x : ClientState). x.last)
      (its next.session next.of_session.there due.session due.there) in
      let number = next.next in
      let more = due.above in
      absurd (omega (arith, is, number, more))
  next_passes next (inr (_, inr (_, inr (_, inr (_, inr (_, inr (_, inr (_, then)))))))) = then

  -- the number that waits comes to the line of the last
  last_comes : NumberWaits s key → key.number ≢ 0 → StateKeyLines s key refuses at_last above → at_last
  last_comes waits some (inl one) = absurd (one.is_due.0 waits.of_session.epoch)
  last_comes waits some (inr (_, inl one)) =
      let less = one.is_due.0 waits.session waits.of_session.there in
      let same = waits.of_session.incarnation in
      absurd (omega (arith, less, same))
  last_comes waits some (inr (_, inr (_, inl one))) =
      let due = one.is_due in
      let is = ap (λ (x : ClientState). x.incarnation)
      (its waits.session waits.of_session.there due.session due.there) in
      let less = due.lower in
      let same = waits.of_session.incarnation in
      absurd (omega (arith, is, less, same))
  last_comes waits some (inr (_, inr (_, inr (_, inl one)))) =
      let due = one.is_due in
      let is = ap (λ (x : ClientState). x.last)
      (its waits.session waits.of_session.there due.session due.there) in
      let number = waits.last in
      absurd (elim due.old [
        | inl less ↦ omega (arith, is, number, less)
        | inr none ↦ some none
      ])
  last_comes waits some (inr (_, inr (_, inr (_, inr (_, inl last))))) = last.1
  last_comes waits some (inr (_, inr (_, inr (_, inr (_, inr rest))))) =
      absurd (rest.0 (record {
        session = waits.session;
        there = waits.of_session.there;
        last = waits.last;
      }))

-- ---- messages

need_small : (wait : Option Wait) → need_by wait ≤ 2
need_small None = omega arith
need_small (Some Now) = omega arith
need_small (Some (Millis zero)) = omega arith
need_small (Some (Millis (suc n))) = omega arith
need_small (Some Forever) = omega arith

module _ (s : State) (moment : ℕ) (m : Message) (move : Move) where
  may_redo : (a : Answer) → Answers a → EntersMove s moment (act_of m) move a → Redoes s moment m move
  may_redo a answers (inl lacks) = inl lacks
  may_redo a answers (inr enters) = inr (a, answers, enters)

module _ (s : State) (resumes : CanResume s) (moment : ℕ) (move : Move) where
  few : s.length + waiting_count s ≤ 9007199254740991
  few = resumes.room.space

  redo_hello : (client incarnation : ℕ) (version : Version)
      → MayRedo s moment (act.Hello client incarnation version)
      → StateNextAtUnder widest s moment (Hello client incarnation version) move
      → Redoes s moment (Hello client incarnation version) move
  redo_hello client incarnation version on (inl one) =
      let due = one.is_due in
      let new = on.number due.session due.there in
      let less = due.lower in
      absurd (omega (arith, new, less))
  redo_hello client incarnation version on (inr (_, inl one)) =
      let due = one.is_due in
      let new = on.number due.session due.there in
      let same = due.same in
      absurd (omega (arith, new, same))
  redo_hello client incarnation version on (inr (_, inr (_, inl again))) =
      let new = on.number again.0.session again.0.there in
      let same = again.0.same in
      absurd (omega (arith, new, same))
  redo_hello client incarnation version on (inr (_, inr (_, inr (_, inl one)))) =
      let due = one.is_due in
      let full : 100000 ≤ len s.clients = due.full in
      let fresh = fresh_state incarnation version in
      let idle = λ (x : ClientState) (there : client_at s client ≡ Some x).
      absurd (none-some x (sym due.is_new ∙ there)) in
      let after : len (insert s.clients client fresh) ≤ 100000 =
      subst (λ (t : State). len t.clients ≤ 100000) (greeted_idle s client fresh idle) on.room.clients in
      let more : len (insert s.clients client fresh) ≡ len s.clients + 1 =
      len-insert nat_cmp_total s.clients client fresh
      ∙ ap (λ (o : Option ClientState). cond (is_some o) (len s.clients) (len s.clients + 1)) due.is_new in
      absurd (omega (arith, full, after, more))
  redo_hello client incarnation version on (inr (_, inr (_, inr (_, inr (_, inl one))))) =
      let full : 18014398509481984 < s.length + waiting_count s + 1 = one.is_due.full in
      absurd (omega (arith, full, few))
  redo_hello client incarnation version on (inr (_, inr (_, inr (_, inr (_, inr (_, then)))))) =
      may_redo s moment (Hello client incarnation version) move (Welcome s.epoch client incarnation version)
      (λ r e. cc) then

  entry_passes : (need : ℕ) (refuses : Refusal → Type 0) (enters : Type 0) → need ≤ 2
      → RefuseOr (NoEntryMoreUnder widest s need) refuses enters → enters
  entry_passes need refuses enters small (inl one) =
      let full : 18014398509481984 < s.length + waiting_count s + need = one.is_due.full in
      absurd (omega (arith, full, few, small))
  entry_passes need refuses enters small (inr then) = then.1

  redo_request : (key : Key) (call : Call) → MayRedo s moment (act.Arrive key call)
      → StateNextAtUnder widest s moment (Request key call) move → Redoes s moment (Request key call) move
  redo_request key call on moves =
      may_redo s moment (Request key call) move (answer_after s moment key (act.Arrive key call))
      (told_answers key (following s moment (act.Arrive key call)).reply)
      (entry_passes (need_of call) _ _ (need_small (wait_of call))
      (next_passes s key _ _ _ on.number moves))

  redo_cancel : (key : Key) → MayRedo s moment (act.Cancel key)
      → StateNextAtUnder widest s moment (Cancel key) move
      → (NumberWaits s key → move ≡ entering s moment (act.Cancel key) (Replied key Cancelled))
      × Redoes s moment (Cancel key) move
  redo_cancel key on moves = elim on.number [
    | inl waits ↦ (λ _. ends waits, inr (Replied key Cancelled, (λ r e. cc), ends waits))
    | inr next ↦ (
      λ waits. ends waits,
      may_redo s moment (Cancel key) move (answer_after s moment key (act.Cancel key))
          (told_answers key (following s moment (act.Cancel key)).reply)
          (entry_passes 1 _ _ (omega arith) (next_passes s key _ _ _ next moves)),
    )
  ]
    where
      asked : (waits : NumberWaits s key) → key.number ≢ 0
      asked waits none =
          let fits = resumes.sessions key.client waits.session waits.of_session.there in
          none-some waits.place (sym (ap place_waiting (fits.unasked (sym waits.last ∙ none))) ∙ waits.waits)

      ends : (waits : NumberWaits s key) → move ≡ entering s moment (act.Cancel key) (Replied key Cancelled)
      ends waits = elim (last_comes s key _ _ _ waits (asked waits) moves) [
        | inl here ↦ here.1
        | inr there ↦ absurd (there.0 waits)
      ]

  pub redoes : (m : Message) → MayRedo s moment (act_of m) → StateNextAtUnder widest s moment m move
      → Redoes s moment m move
  redoes (Hello client incarnation version) on moves = redo_hello client incarnation version on moves
  redoes (Request key call) on moves = redo_request key call on moves
  redoes (Cancel key) on moves = (redo_cancel key on moves).1

  -- what takes no memory is done
  pub spares : (m : Message) → MayRedo s moment (act_of m) → StateNextAtUnder widest s moment m move
      → NeedsNoMemory s (act_of m) → (a : Answer) × Answers a × (move ≡ entering s moment (act_of m) a)
  spares (Hello client incarnation version) on moves none = absurd none
  spares (Request key call) on moves none = absurd none
  spares (Cancel key) on moves none =
      (Replied key Cancelled, (λ r e. cc), (redo_cancel key on moves).0 none)

-- ---- what was heard

-- what is said is no refusal
abbrev pub Accepts : Said → Type 0
Accepts (said.Welcome epoch client incarnation version) = Unit {0}
Accepts (said.Told key) = Unit {0}
Accepts (said.Refused refusal) = ⊥

said_answers : (s : State) (told : Said) (a : Answer) → Accepts told → Says s told a → Answers a
said_answers s (said.Welcome epoch client incarnation version) a accepts is r refuses =
    let no : Welcome epoch client incarnation version ≡ Refused r = sym is ∙ refuses in cc
said_answers s (said.Told key) a accepts is r refuses = told_answers key _ r (sym is.2 ∙ refuses)
said_answers s (said.Refused refusal) a accepts is r refuses = absurd accepts

module _ (old new : Holdings) (moment : ℕ) (m : Message) (made : Heard) (on : MayRedo (state_in old)
    moment
    (act_of m)) (limits : StepLimits) (is_widest : limits ≡ widest)
    (under : IsHearing limits old new moment m made) where
  abbrev hears : IsHearing widest old new moment m made
  hears = subst (λ (l : StepLimits). IsHearing l old new moment m made) is_widest under

  its_move : Redoes (state_in old) moment m hears.move
  its_move = redoes (state_in old) on.resumes moment hears.move m on hears.moves

  done_by : (a : Answer) → hears.move ≡ entering (state_in old) moment (act_of m) a
      → IsRedone old new moment (act_of m)
  done_by a enters = record {
    after = hears.after ∙ ap (λ (x : Move). x.after) enters;
    settles = hears.settles ∙ ap (λ (x : Move). keys_settled x.settles) enters;
  }

  pub heard_redone : Accepts made.said → IsRedone old new moment (act_of m)
  heard_redone accepts = elim its_move [
    | inl lacks ↦ absurd (said_answers (state_in new) made.said hears.move.answer accepts hears.says NoMemory
        (ap (λ (x : Move). x.answer) lacks))
    | inr does ↦ done_by does.0 does.2
  ]

  refused_by : (r : Refusal) → made.said ≡ said.Refused r → hears.move.answer ≡ Refused r
  refused_by r is = subst (λ (x : Said). Says (state_in new) x hears.move.answer) is hears.says

  pub heard_stays : (r : Refusal) → made.said ≡ said.Refused r → state_in new ≡ state_in old
  heard_stays r is = elim its_move [
    | inl lacks ↦ hears.after ∙ ap (λ (x : Move). x.after) lacks
    | inr does ↦ absurd (does.1 r (sym (ap (λ (x : Move). x.answer) does.2) ∙ refused_by r is))
  ]

  pub heard_none : (r : Refusal) → made.said ≡ said.Refused r → new.settled.items ≡ []
  heard_none r is = elim its_move [
    | inl lacks ↦ hears.settles ∙ ap (λ (x : Move). keys_settled x.settles) lacks
    | inr does ↦ absurd (does.1 r (sym (ap (λ (x : Move). x.answer) does.2) ∙ refused_by r is))
  ]

  pub heard_spares : NeedsNoMemory (state_in old) (act_of m) → (r : Refusal) → made.said ≡ said.Refused r → ⊥
  heard_spares none r is =
      let does = spares (state_in old) on.resumes moment hears.move m on hears.moves none in
      does.1 r (sym (ap (λ (x : Move). x.answer) does.2) ∙ refused_by r is)

-- ---- a tick

middle_is : (least moment most : ℕ) → least ≤ moment → moment ≤ most → max least (min moment most) ≡ moment
middle_is least moment most above below = omega arith

ticks_due : (s : State) (moment : ℕ) (due : List OpenPlace) → due ≢ []
    → ticked_if s moment due ≡ ticking s moment
ticks_due s moment [] some = absurd (some refl)
ticks_due s moment (first ∷ others) some = refl

-- the tick of a step at the moment of one that is redone ends the same
pub ticked_again : (old new : Holdings) (moment : ℕ) (made : TickMade)
    → MayRedo (state_in old) moment act.Tick → moment ≤ max_moment
    → made.moment ≡ state_moment (state_in old) moment → IsTick old new made
    → IsRedone old new moment act.Tick
ticked_again old new moment made on most at ticks = record {
  after = ticks.after ∙ ap (λ (t : Ticked). t.after) is;
  settles = ticks.settles ∙ ap (λ (t : Ticked). keys_settled t.settles) is;
}
  where
    is : ticked_at (state_in old) made.moment ≡ ticking (state_in old) moment
    is = ap (ticked_at (state_in old))
        (at ∙ middle_is old.moment moment max_moment on.moment_fits.not_before most)
        ∙ ticks_due (state_in old) moment (due_at (state_in old) moment) on.moment_fits.due
