-- Whoever waited is told what a repeat of its request would be.
use Rattle.std.proofs.Common.{inl, inr, ◌≡◌, ◌≢◌, ◌<◌, ◌≤◌, ◌∙◌, ℕ, List, Some}
use Rattle.std.proofs.Common.{refl, sym, ap, subst, arith, option_and_then}
use Rattle.std.proofs.lemmas.List.{append-nil}
use Rattle.std.proofs.lemmas.Option.{none-some, same_Some}
use Rattle.rv_text.specs.declared.call.Call.{Call}
use Rattle.rv_text.specs.declared.message.Key.{Key}
use Rattle.rv_text.specs.declared.message.Message.TheVariants.{Request}
use Rattle.rv_text.specs.declared.answer.Answer.{Answer}
use Rattle.rv_text.specs.declared.answer.Answer.TheVariants.{Refused}
use Rattle.rv_text.specs.declared.answer.Refusal.{Refusal}
use Rattle.rv_text.specs.declared.answer.Refusal.TheVariants.{OldIncarnation}
use Rattle.rv_session.specs.declared.client.LastRequest.{LastRequest}
use Rattle.rv_session.specs.declared.client.LastRequest.TheVariants.{CancelledUnseen, Fresh, RepliedTo, Waits}
use Rattle.rv_account.specs.declared.entry.Act.TheVariants.{Arrive}
use Rattle.rv_account.specs.declared.entry.Entry.{Entry}
use Rattle.rv_account.specs.Account.{Account, act_at, call_in}
use Rattle.rv_account.specs.rules.Legal.{Legal}
use Rattle.rv_account.specs.rules.StepLimits.{StepLimits}
use Rattle.rv_account.specs.rules.Steps.{NextUnder}
use Rattle.rv_account.proofs.OfRules.OnePartner.{arrives_once}
use Rattle.rv_account.specs.state.Agreement.{BecameOf}
use Rattle.rv_account.specs.state.Moves.{CallDiffers, IncarnationOld, NumberOld}
use Rattle.rv_account.specs.state.Moves.{SessionLacks, StateNextAtUnder, answer_told, call_asked, staying}
use Rattle.rv_account.specs.state.Moves.{told_again}
use Rattle.rv_account.specs.state.State.{ClientState, State, client_at}
use Rattle.rv_account.proofs.OfState.StateLaws.{moves_step_under}
use Rattle.rv_account.specs.state.Moves.{StateNextUnder}
use Rattle.rv_hub.specs.dispatcher.View.{DispatcherState}
use Rattle.rv_hub.specs.dispatcher.Telling.{IsToldAgain}
use Rattle.rv_hub.specs.HubRuns.{IsHubAccount, TellsAsARepeat}
use Rattle.rv_hub.proofs.Accounts.{fitting_number, next_here, told_became}

-- ---- the request that arrived

-- a request arrives once, so with one call
one_call : (a : Account) (p q : ℕ) (key : Key) (c d : Call) → Legal a
    → act_at a.entries p ≡ Some (Arrive key c) → act_at a.entries q ≡ Some (Arrive key d) → c ≡ d
one_call a p q key c d legal first second =
    let same = arrives_once a p q key c d legal first second in
    let there : act_at a.entries q ≡ Some (Arrive key c) = ap (act_at a.entries) (sym same) ∙ first in
    same_Some c d (ap (option_and_then call_in) (sym there ∙ second))

-- and the session knows it by that call
asked_with : (a : Account) (key : Key) (request : LastRequest) (place : ℕ) (call came : Call) → Legal a
    → BecameOf a.entries key request → act_at a.entries place ≡ Some (Arrive key call)
    → call_asked request ≡ Some came → came ≡ call
asked_with a key Fresh place call came legal became arrived asked = absurd (none-some came asked)
asked_with a key (Waits at own) place call came legal became arrived asked =
    sym (same_Some own came asked) ∙ one_call a at place key own call legal became.arrived arrived
asked_with a key (RepliedTo own reply) place call came legal became arrived asked =
    sym (same_Some own came asked) ∙ sym became.with_call
    ∙ one_call a became.replies.place place key became.replies.call call legal became.replies.arrived arrived
asked_with a key CancelledUnseen place call came legal became arrived asked = absurd (none-some came asked)

-- ---- the lines of a step with it

same_session : (s : State) (client : ℕ) (one other : ClientState) → client_at s client ≡ Some one
    → client_at s client ≡ Some other → one ≡ other
same_session s client one other first second = same_Some one other (sym first ∙ second)

module _ (s : State) (key : Key) (session : ClientState) (there : client_at s key.client ≡ Some session) where
  incarnation_is : (other : ClientState) → client_at s key.client ≡ Some other
      → other.incarnation ≡ session.incarnation
  incarnation_is other at =
      ap (λ (c : ClientState). c.incarnation) (same_session s key.client other session at there)

  -- the session is of the key's incarnation, or of a greater one
  none_lacks : key.incarnation ≤ session.incarnation → (refusal : Refusal) → ¬ SessionLacks s key refusal
  none_lacks reaches refusal due =
      let lower : session.incarnation < key.incarnation = due.0 session there in
      omega arith

  none_old : session.incarnation ≡ key.incarnation → (refusal : Refusal)
      → ¬ IncarnationOld s key.client key.incarnation refusal
  none_old same refusal due =
      let is = incarnation_is due.session due.there in
      let lower : key.incarnation < due.session.incarnation = due.lower in
      omega arith

  none_below : session.last ≡ key.number → key.number ≢ 0 → (refusal : Refusal) → ¬ NumberOld s key refusal
  none_below last some refusal due =
      let is : due.session.last ≡ session.last =
      ap (λ (c : ClientState). c.last) (same_session s key.client due.session session due.there there) in
      elim due.old [
        | inl below ↦ (let less : key.number < due.session.last = below in let no : ⊥ = omega arith in no)
        | inr zero ↦ some zero
      ]

  none_differs : (call : Call) → ((came : Call) → call_asked session.request ≡ Some came → came ≡ call)
      → (refusal : Refusal) → ¬ CallDiffers s key call refusal
  none_differs call asked refusal due =
      let is = same_session s key.client due.session session due.there there in
      due.other (asked due.came (sym (ap (λ (c : ClientState). call_asked c.request) is) ∙ due.with_call))

  -- a repeat of the last request
  repeats : (limits : StepLimits) (now : ℕ) (call : Call) (said : Answer) → key.epoch ≡ s.epoch
      → session.incarnation ≡ key.incarnation → session.last ≡ key.number → key.number ≢ 0
      → ((came : Call) → call_asked session.request ≡ Some came → came ≡ call)
      → said ≡ answer_told key (told_again session.request)
      → StateNextAtUnder limits s now (Request key call) (staying s said)
  repeats limits now call said epoch same last some asked is =
      inr (
        (λ refusal due. due.0 epoch),
        inr (
          none_lacks (omega arith),
          inr (
            none_old same,
            inr (
              none_below last some,
              inl (
                record { session = session; there = there; last = sym last },
                inr (
                  none_differs call asked,
                  record { session = session; there = there; is = ap (λ x. staying s x) is },
                ),
              ),
            ),
          ),
        ),
      )

  -- one whose session has a greater incarnation
  refused_old : (limits : StepLimits) (now : ℕ) (call : Call) (said : Answer) → key.epoch ≡ s.epoch
      → key.incarnation < session.incarnation → said ≡ Refused (OldIncarnation session.incarnation)
      → StateNextAtUnder limits s now (Request key call) (staying s said)
  refused_old limits now call said epoch lower is =
      inr (
        (λ refusal due. due.0 epoch),
        inr (
          none_lacks (omega arith),
          inl (record {
            refusal = OldIncarnation session.incarnation;
            is_due = record { session = session; there = there; lower = lower; is = refl };
            refuses_it = ap (λ x. staying s x) is;
          }),
        ),
      )

-- ---- a step of the account

repeats_move : (limits : StepLimits) (a : Account) (s : DispatcherState) (key : Key) (said : Answer) (call :
    Call)
    (place : ℕ) → IsHubAccount a s → IsToldAgain s.book key said
    → act_at a.entries place ≡ Some (Arrive key call)
    → StateNextAtUnder limits s.book s.now (Request key call) (staying s.book said)
repeats_move limits a s key said call place is told arrived =
    let session = told.session in
    elim told.told [
      | inl own ↦
          (let became = told_became a s key said is told own.0 own.1 in
          repeats s.book key session told.there limits s.now call said told.epoch own.0 own.1
          (fitting_number key told.fits)
          (λ came. asked_with a key session.request place call came is.legal became arrived) own.2)
      | inr old ↦ refused_old s.book key session told.there limits s.now call said told.epoch old.0 old.1
    ]

-- an account is what its fields are
pub account_is : (a b : Account) → b.epoch ≡ a.epoch → b.opened ≡ a.opened → b.entries ≡ a.entries → b ≡ a
account_is a b epoch opened entries =
    ap (λ n. record { epoch = n; opened = b.opened; entries = b.entries }) epoch
    ∙ ap (λ n. record { epoch = a.epoch; opened = n; entries = b.entries }) opened
    ∙ ap (λ (es : List Entry). record { epoch = a.epoch; opened = a.opened; entries = es }) entries

pub as_a_repeat : TellsAsARepeat
as_a_repeat terms s t a connection key said call place time is does arrived =
    let move = staying s.book said in
    let moves = repeats_move terms.limits a s key said call place is does.told arrived in
    let next = next_here terms.limits s.book s.now (Request key call) move is.later time is.none_due moves in
    let own = subst (λ (x : State). StateNextUnder terms.limits x s.now (Request key call) move)
    (sym is.state) next in
    let steps = moves_step_under terms.limits a s.now (Request key call) move is.legal own in
    subst (λ (b : Account). NextUnder terms.limits a s.now (Request key call) b said)
    (account_is a steps.after steps.is.epoch steps.is.opened (steps.is.entries ∙ append-nil a.entries))
    steps.next
