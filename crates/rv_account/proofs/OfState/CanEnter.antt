-- Whatever comes, and under whatever limits, each legal account has a step; what can enter after the step's
-- time-outs is read off it.
use Rattle.rv_account.proofs.OfState.Words.{ℕ, Option, Some, None, inl, inr, refl, sym, subst, Account, Act}
use Rattle.rv_account.proofs.OfState.Words.{Answer}
use Rattle.rv_account.proofs.OfState.Words.{Answers, Arrive, Call, Cancel, Key, Legal, Message, Refusal}
use Rattle.rv_account.proofs.OfState.Words.{Replied}
use Rattle.rv_account.proofs.OfState.Words.{Cancelled, state_of, with_entry}
use Rattle.std.specs.Prelude.{◌≢◌}
use Rattle.rv_text.specs.declared.answer.Answer.TheVariants.{Refused}
use Rattle.rv_text.specs.declared.answer.Refusal.TheVariants.{NoMemory}
use Rattle.rv_text.specs.declared.message.Message.TheVariants as message
use Rattle.rv_account.specs.rules.StepLimits.{StepLimits}
use Rattle.rv_account.specs.rules.Steps.{Adds, EntersOrNoMemory, KeyLines, NextAtUnder, NextUnder, PlaceLine}
use Rattle.rv_account.specs.rules.Steps.{RefuseOr}
use Rattle.rv_account.specs.rules.Steps.{Replies, Ticks, WhereElse, step_moment}
use Rattle.rv_account.specs.state.StepLaws.{CanCancel, CancelsCanEnterUnder, HellosCanEnterUnder}
use Rattle.rv_account.specs.state.StepLaws.{RequestsCanEnterUnder}
use Rattle.rv_account.proofs.OfState.Agreed.{agreed}
use Rattle.rv_account.proofs.OfState.EntersBoth.{adds_own, own_entry}
use Rattle.rv_account.proofs.OfState.MovesThere.{move_there}
use Rattle.rv_account.proofs.OfState.OneStep.{one_ticked}
use Rattle.rv_account.proofs.OfState.OwnAnswers.{first_replies}
use Rattle.rv_account.proofs.OfState.StateLaws.{moves_step_under}
use Rattle.rv_account.proofs.OfState.ToldCancelled.{waiting_replies}

-- ---- a step is there

pub record HasNextUnder (limits : StepLimits) (a : Account) (now : ℕ) (m : Message) : Type 0 where
  pub after : Account
  pub answer : Answer
  pub next : NextUnder limits a now m after answer
  pub in_memory : answer ≢ Refused NoMemory

pub next_exists_under : (limits : StepLimits) (a : Account) (now : ℕ) (m : Message) → Legal a
    → HasNextUnder limits a now m
next_exists_under limits a now m legal =
    let there = move_there limits (state_of a) now m in
    let steps = moves_step_under limits a now m there.move legal there.moves in
    record {
      after = steps.after;
      answer = there.move.answer;
      next = steps.next;
      in_memory = there.in_memory;
    }

ticked_legal : (a b : Account) (moment : ℕ) → Legal a → Ticks a moment b → Legal b
ticked_legal a b moment legal (inl ticks) = ticks.1.legal
ticked_legal a b moment legal (inr same) = subst Legal (sym same.1) legal

-- what the message does after the time-outs
record LeadsOn (limits : StepLimits) (a : Account) (moment : ℕ) (m : Message) : Type 0 where
  after : Account
  answer : Answer
  steps : NextAtUnder limits a moment m after answer
  in_memory : answer ≢ Refused NoMemory

leads_on : (limits : StepLimits) (before a : Account) (now : ℕ) (m : Message) → Legal before
    → Ticks before (step_moment before now) a → LeadsOn limits a (step_moment before now) m
leads_on limits before a now m legal ticks =
    let there = next_exists_under limits before now m legal in
    let moment : ℕ = step_moment before now in
    record {
      after = there.after;
      answer = there.answer;
      steps = subst (λ (t : Account). NextAtUnder limits t moment m there.after there.answer)
          (one_ticked before there.next.ticked a moment there.next.ticks ticks) there.next.steps;
      in_memory = there.in_memory;
    }

-- ---- what its lines say of less

refuse_or : (D R : Refusal → Type 0) (O P : Type 0) → (O → P) → RefuseOr D R O
    → RefuseOr D (λ refusal. Unit {0}) P
refuse_or D R O P goes_on (inl h) =
    inl (record { refusal = h.refusal; is_due = h.is_due; refuses_it = tt })
refuse_or D R O P goes_on (inr h) = inr (h.0, goes_on h.1)

where_else : (C T U O P : Type 0) → (T → U) → ((C → ⊥) → O → P) → WhereElse C T O → WhereElse C U P
where_else C T U O P this that (inl h) = inl (h.0, this h.1)
where_else C T U O P this that (inr h) = inr (h.0, that h.0 h.1)

key_lines : (a : Account) (key : Key) (R : Refusal → Type 0) (L M G H : Type 0) → (L → M) → (G → H)
    → KeyLines a key R L G → KeyLines a key (λ refusal. Unit {0}) M H
key_lines a key R L M G H at_last above =
    refuse_or _ _ _ _ (refuse_or _ _ _ _ (refuse_or _ _ _ _ (refuse_or _ _ _ _
    (where_else _ L M _ _ at_last (λ no.
    refuse_or _ _ _ _ (refuse_or _ _ G H above))))))

place_line : (bound : Option ℕ) (a : Account) (call : Call) (R : Refusal → Type 0) (G H : Type 0) → (G → H)
    → PlaceLine bound a call R G → PlaceLine bound a call (λ refusal. Unit {0}) H
place_line None a call R G H enters = enters
place_line (Some most) a call R G H enters = refuse_or _ R G H enters

enters : (a b : Account) (moment : ℕ) (does : Act) (x : Answer) (A : Type 0) → x ≢ Refused NoMemory
    → EntersOrNoMemory a moment does b x A → Adds a moment does b × A
enters a b moment does x A in_memory (inl refuses) = absurd (in_memory refuses.1)
enters a b moment does x A in_memory (inr added) = added

-- ---- each message

pub hellos_can_enter_under : (limits : StepLimits) → HellosCanEnterUnder limits
hellos_can_enter_under limits before a now client incarnation version legal ticks =
    let on = leads_on limits before a now (message.Hello client incarnation version) legal ticks in
    refuse_or _ _ _ _ (refuse_or _ _ _ _
    (where_else _ _ (Unit {0}) _ _ (λ again. tt) (λ new.
    refuse_or _ _ _ _ (refuse_or _ _ _ _
    (λ h. (on.after, (enters _ _ _ _ _ _ on.in_memory h).0)))))) on.steps

pub requests_can_enter_under : (limits : StepLimits) → RequestsCanEnterUnder limits
requests_can_enter_under limits before a now key call legal ticks =
    let on = leads_on limits before a now (message.Request key call) legal ticks in
    key_lines a key _ _ _ _ _
    (refuse_or _ _ _ _ (λ again. (on.answer, again.answers)))
    (refuse_or _ _ _ _ (place_line limits.open_places a call _ _ _ (λ h.
    let added = enters a on.after (step_moment before now) (Arrive key call) on.answer
    (Answers on.after key on.answer) on.in_memory h in
    record { after = on.after; answer = on.answer; adds = added.0; answers = added.1 }))) on.steps

-- whom a cancel's entry cancels
cancels : (a b : Account) (moment : ℕ) (key : Key) → Legal a → Adds a moment (Cancel key) b
    → CanCancel a moment key
cancels a b moment key legal adds =
    let entered = adds_own a b (state_of a) moment (Cancel key) legal (agreed a legal) adds in
    let e = own_entry (state_of a) moment (Cancel key) in
    let numbers = entered.comes.follows.numbers in
    let said : Replies (with_entry a e) key (Replied key Cancelled) = elim (numbers.cancels key refl) [
      | inl waits ↦ waiting_replies a e key refl refl waits
      | inr next ↦ first_replies a e key legal (numbers.of_session key refl).1 next refl
    ] in
    record {
      after = b;
      adds = adds;
      replies = subst (λ (t : Account). Replies t key (Replied key Cancelled)) (sym entered.is) said;
    }

pub cancels_can_enter_under : (limits : StepLimits) → CancelsCanEnterUnder limits
cancels_can_enter_under limits before a now key legal ticks =
    let moment : ℕ = step_moment before now in
    let on = leads_on limits before a now (message.Cancel key) legal ticks in
    let then = cancels a on.after moment key (ticked_legal before a moment legal ticks) in
    key_lines a key _ _ _ _ _
    (where_else _ _ _ _ _ (λ ends. then ends.0)
    (λ idle again. elim again.answers [ inl told ↦ (on.answer, told) | inr waits ↦ absurd (idle waits.0) ]))
    (refuse_or _ _ _ _ (λ h. then (enters _ _ _ _ _ _ on.in_memory h).0)) on.steps
