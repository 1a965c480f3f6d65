-- What whoever waited is told has a text that fits a frame.
use Rattle.std.proofs.Common.{inl, inr, ◌≡◌, ◌+◌, ◌∙◌, ℕ, List, Option, Some, Ok, Err, Result, IfOk, refl}
use Rattle.std.proofs.Common.{arith, cond, subst, sym}
use Rattle.std.specs.Prelude.{is_some}
use Rattle.rv_json.specs.Bodies.{HasBodyLength}
use Rattle.rv_text.specs.declared.message.Key.{Key}
use Rattle.rv_text.specs.declared.answer.Answer.{Answer}
use Rattle.rv_text.specs.declared.answer.Answer.TheVariants as answer
use Rattle.rv_text.specs.declared.answer.Refusal.TheVariants.{OldIncarnation}
use Rattle.rv_text.specs.Bodies.{answer_text}
use Rattle.rv_text.specs.Limits.{FitsAnswer}
use Rattle.rv_account.specs.state.State.{ClientState, State, client_at}
use Rattle.rv_account.specs.state.Moves.{answer_told, told_again}
use Rattle.rv_account.specs.state.resume.Resuming.{CanResume}
use Rattle.rv_account.proofs.OfState.OfWaiting.WaitingLaws.{old_fits, told_fits}
use Rattle.rv_server_connections.specs.declared.subscribers.tables.Subscription.{Subscription}
use Rattle.rv_hub.specs.dispatcher.Telling.{IsTellable, IsToldAgain, WasLast}
use Rattle.rv_hub.specs.dispatcher.Going.{IsToldText}

-- what holds of a result that is there
pub ok_holds : {T E : Type 0} (r : Result T E) (t : T) (P : T → Type 0) → r ≡ Ok t → P t → IfOk r P
ok_holds {T} {E} r t P is holds = subst (λ (q : Result T E). IfOk q P) (sym is) holds

some_is : {X : Type 0} → (x y : X) → Some x ≡ Some y → x ≡ y
some_is x y same = cc

-- a repeat of the request is told what became of it, if its session is still there
pub same_again : (s : State) (key : Key) (session : ClientState) → IsTellable s key
    → client_at s key.client ≡ Some session → session.incarnation ≡ key.incarnation
    → IsToldAgain s key (answer_told key (told_again session.request))
same_again s key session tellable there same =
    let its = some_is tellable.session session (sym tellable.there ∙ there) in
    let last = subst (λ (x : ClientState). WasLast x key) its tellable.last in
    record {
      fits = tellable.fits;
      epoch = tellable.epoch;
      session = session;
      there = there;
      told = elim last [
        | inl was ↦ inl (same, was.1, refl)
        | inr greater ↦ absurd (omega (arith, greater, same))
      ];
    }

-- and else that its session has a greater incarnation
pub old_again : (s : State) (key : Key) (session : ClientState) → IsTellable s key
    → client_at s key.client ≡ Some session → (session.incarnation ≡ key.incarnation → ⊥)
    → IsToldAgain s key (answer.Refused (OldIncarnation session.incarnation))
old_again s key session tellable there apart =
    let its = some_is tellable.session session (sym tellable.there ∙ there) in
    let last = subst (λ (x : ClientState). WasLast x key) its tellable.last in
    record {
      fits = tellable.fits;
      epoch = tellable.epoch;
      session = session;
      there = there;
      told = elim last [
        | inl was ↦ absurd (apart was.0)
        | inr greater ↦ inr (greater, refl)
      ];
    }

pub told_answer_fits : (s : State) (key : Key) (said : Answer) → CanResume s → IsTellable s key
    → IsToldAgain s key said
    → FitsAnswer said
told_answer_fits s key said resumes tellable told =
    elim told.told [
      | inl is ↦
          subst (λ a. FitsAnswer a) (sym is.2)
          (told_fits s key told.session resumes told.there tellable.epoch tellable.fits.3 is.0 is.1)
      | inr old ↦ subst (λ a. FitsAnswer a) (sym old.1) (old_fits s key.client told.session resumes
          told.there)
    ]

pub text_told : {T E : Type 0} → (bytes : T → List ℕ) (s : State) (key : Key) (said : Answer) (written :
    Result T E)
    → CanResume s
    → IsTellable s key → IsToldAgain s key said → IfOk written (λ t. bytes t ≡ answer_text said)
    → (FitsAnswer said → IfOk written (λ t. HasBodyLength (bytes t)))
    → IfOk written (λ t. IsToldText s key (bytes t))
text_told bytes s key said (Ok t) resumes tellable told text short = record {
  said = said;
  told = told;
  text_is = text;
  fits = short (told_answer_fits s key said resumes tellable told);
}
text_told bytes s key said (Err e) resumes tellable told text short = tt

-- one less waits
pub fewer_by : (n m : ℕ) (o : Option Subscription) (h : Subscription) → o ≡ Some h
    → n + cond (is_some o) 1 0 ≡ m
    → n + 1 ≡ m
fewer_by n m o h is count = subst (λ (x : Option Subscription). n + cond (is_some x) 1 0 ≡ m) is count
