-- What a step answers is within the limits, where its message and its account are.
use Rattle.rv_account.specs.declared.entry.Act as act
use Rattle.rv_book.proofs.Words.{◌∙◌, ◌≡◌, ◌≤◌, Request, call_in, Account, act_at, key_in, Act, Answer}
use Rattle.rv_book.proofs.Words.{EntersOrNoMemory, EpochFullDue, NextAt, RefuseOr, Refuses, Answers}
use Rattle.rv_book.proofs.Words.{ClientsFullDue, OtherCallDue, Replies, FitsAccount, Reply, HasReply}
use Rattle.rv_book.proofs.Words.{HasIncarnation, LastNumber, Key, Version, One, Two, option_and_then, Some}
use Rattle.rv_book.proofs.Words.{ap, arith, inl, inr, subst, sym, ℕ, Message, Refusal, OtherVersion, act_fits}
use Rattle.rv_book.proofs.Words.{act_there, Replied, Welcome, Cancelled, HasWaiting, Legal, no_hello, arrival}
use Rattle.rv_book.proofs.Words.{cases_order, Call}
use Rattle.rv_text.specs.declared.message.Message.TheVariants.{Cancel, Hello}
use Rattle.rv_book.specs.Steps.{GapDue, NoSessionDue, OldIncarnationDue, OldNumberDue, OtherEpochDue}
use Rattle.rv_book.specs.Steps.{OtherVersionDue, BusyDue}
use Rattle.rv_text.specs.Limits.{FitsAnswer, FitsIdentifier, FitsKey, FitsLast, FitsMessage, FitsRefusal}
use Rattle.rv_text.proofs.Kept.{cancelled_fits}
use Rattle.rv_account.proofs.OfRules.WithinLimits.{key_of_act}
use Rattle.rv_account.proofs.OfRules.Lines.{RefuseOr-elim, WhereElse-elim}
use Rattle.rv_book.proofs.RepliesFit.{FitsIn, replied_fits}
use Rattle.rv_account.proofs.OfRules.Keys.{act_arrives}
use Rattle.rv_account.proofs.OfRules.Waits.{no_hello_behind}

-- ---- what stands in an account fits

incarnation_fits : (a : Account) (client current : ℕ) → FitsAccount a
    → HasIncarnation a.entries client current → FitsIdentifier current
incarnation_fits a client current fits has =
    (act_fits a has.0 (act.TheVariants.Hello client current has.1.version) fits has.1.hello).1

last_fits : (a : Account) (client last : ℕ) → FitsAccount a → LastNumber a.entries client last → FitsLast last
last_fits a client last fits is = elim is.reached [
  | inl none ↦ omega arith
  | inr there ↦
      let does = act_there key_in (act_at a.entries there.0) there.1 there.3.named in
      let key : FitsKey there.1 = key_of_act does.0 there.1 (act_fits a there.0 does.0 fits does.1) does.2 in
      let number : there.1.number ≤ 9007199254740991 = key.3.1 in
      let is_last : there.1.number ≡ last = there.4 in
      omega arith
]

-- ---- what a step answers fits

reply_fits : (b : Account) (key : Key) (told : Reply) → Legal b → FitsAccount b → HasReply b.entries key told
    → FitsIn key.epoch told
reply_fits b key told legal fits (inl has) =
    let own = (arrival b has.place key has.call legal has.arrived).epoch in
    subst (λ n. FitsIn n told) (sym own) (replied_fits has.call b has.place told legal fits
    (ap (option_and_then call_in) has.arrived) has.replies)
reply_fits b key told legal fits (inr first) = subst (FitsIn key.epoch) (sym first.1) (cancelled_fits, tt)

told_fits : (b : Account) (key : Key) (x : Answer) → Legal b → FitsAccount b → FitsKey key → Answers b key x
    → FitsAnswer x
told_fits b key x legal fits key_fits (inr waits) = subst FitsAnswer (sym waits.1) key_fits
told_fits b key x legal fits key_fits (inl told) =
    let fitting = reply_fits b key told.reply legal fits told.has in
    subst FitsAnswer (sym told.is) (key_fits, fitting.0, fitting.1)

entered_fits : (a b : Account) (moment : ℕ) (does : Act) (x : Answer) (G : Type 0) → (G → FitsAnswer x)
    → EntersOrNoMemory a moment does b x G → FitsAnswer x
entered_fits a b moment does x G answers (inl refuses) = subst FitsAnswer (sym refuses.1) tt
entered_fits a b moment does x G answers (inr added) = answers added.1

-- a refusal that is due tells a number that stands in the account
abbrev DueFits : (Refusal → Type 0) → Type 0
DueFits D = (refusal : Refusal) → D refusal → FitsRefusal refusal

refusal_is : (p q : Refusal) → q ≡ p → FitsRefusal p → FitsRefusal q
refusal_is p q is fits = subst FitsRefusal (sym is) fits

other_epoch_fits : (a : Account) (key : Key) → FitsAccount a → DueFits (OtherEpochDue a key)
other_epoch_fits a key fits refusal due = refusal_is _ refusal due.1 fits.epoch

no_session_fits : (a : Account) (key : Key) → DueFits (NoSessionDue a key)
no_session_fits a key refusal due = refusal_is _ refusal due.1 tt

old_incarnation_fits : (a : Account) (client incarnation : ℕ) → FitsAccount a
    → DueFits (OldIncarnationDue a client incarnation)
old_incarnation_fits a client incarnation fits refusal due = refusal_is _ refusal due.is
    (incarnation_fits a client due.current fits due.has)

version_fits : (v : Version) → FitsRefusal (OtherVersion v)
version_fits One = (omega arith, omega arith)
version_fits Two = (omega arith, omega arith)

other_version_fits : (a : Account) (client incarnation : ℕ) (version : Version)
    → DueFits (OtherVersionDue a client incarnation version)
other_version_fits a client incarnation version refusal due = refusal_is _ refusal due.is
    (version_fits due.current)

old_number_fits : (a : Account) (key : Key) → FitsAccount a → DueFits (OldNumberDue a key)
old_number_fits a key fits refusal due = refusal_is _ refusal due.is (last_fits a key.client due.last fits
    due.is_last)

other_call_fits : (a : Account) (key : Key) (call : Call) → DueFits (OtherCallDue a key call)
other_call_fits a key call refusal due = refusal_is _ refusal due.is tt

-- the last number of a client with a request that waits is no less than that request's: no hello comes
-- after it
waiting_reached : (a : Account) (client last : ℕ) → FitsAccount a → LastNumber a.entries client last
    → HasWaiting a.entries client → 1 ≤ last
waiting_reached a client last fits is_last waits =
    let key = waits.key in
    let call = waits.waits.is_open.call in
    let arrived = act_arrives (act_at a.entries waits.place) key call waits.names.named
    waits.waits.is_open.arrived in
    let same : key.client ≡ client = waits.names.of_client in
    let fitting : FitsKey key = (act_fits a waits.place (act.TheVariants.Arrive key call) fits arrived).0 in
    let hello = is_last.hello.hello in
    elim (cases_order waits.place is_last.h) [
      | inl at ↦ absurd (no_hello key call client is_last.incarnation is_last.hello.version (sym arrived
          ∙ ap (act_at a.entries) at ∙ hello))
      | inr differ ↦ elim differ [
        | inl less ↦
            let own : act_at a.entries is_last.h ≡ Some (act.TheVariants.Hello key.client is_last.incarnation
            is_last.hello.version) = subst (λ c. act_at a.entries is_last.h ≡ Some (act.TheVariants.Hello
            c is_last.incarnation is_last.hello.version)) (sym same) hello in
            absurd (no_hello_behind a waits.place is_last.h key call is_last.incarnation is_last.hello.version
            waits.waits arrived own less)
        | inr more ↦
            let most : key.number ≤ last = is_last.greatest waits.place key more waits.names in
            let least : 1 ≤ key.number = fitting.3.0 in
            omega arith
      ]
    ]

busy_fits : (a : Account) (key : Key) → FitsAccount a → DueFits (BusyDue a key)
busy_fits a key fits refusal due = refusal_is _ refusal due.is (
  waiting_reached a key.client due.last fits
      due.is_last due.waits,
  last_fits a key.client due.last fits due.is_last,
)

clients_full_fits : (a : Account) (client : ℕ) → DueFits (ClientsFullDue a client)
clients_full_fits a client refusal due = refusal_is _ refusal due.is tt

gap_fits : (a : Account) (key : Key) → FitsAccount a → DueFits (GapDue a key)
gap_fits a key fits refusal due = refusal_is _ refusal due.is (last_fits a key.client due.last fits
    due.is_last)

full_fits : (a : Account) (need : ℕ) → DueFits (EpochFullDue a need)
full_fits a need refusal due = refusal_is _ refusal due.is tt

-- a line that refuses says what fits
line_fits : (D : Refusal → Type 0) (O : Type 0) (a b : Account) (x : Answer) → DueFits D → (O → FitsAnswer x)
    → RefuseOr D (Refuses a b x) O → FitsAnswer x
line_fits D O a b x due goes_on = RefuseOr-elim D (Refuses a b x) O (FitsAnswer x)
    (λ refusal is refuses. subst FitsAnswer (sym refuses.1) (due refusal is)) goes_on

pub step_fits : (a b : Account) (moment : ℕ) (m : Message) (x : Answer) → Legal b → FitsAccount a
    → FitsAccount b → FitsMessage m → NextAt a moment m b x → FitsAnswer x
step_fits a b moment (Hello client incarnation version) x legal before after fits =
    let welcome = λ (is : x ≡ Welcome a.epoch client incarnation version). subst FitsAnswer (sym is)
    (before.epoch, fits.0, fits.1) in
    line_fits _ _ a b x (old_incarnation_fits a client incarnation before)
    (line_fits _ _ a b x (other_version_fits a client incarnation version)
    (WhereElse-elim _ _ _ (FitsAnswer x) (λ has again. welcome again.1)
    (line_fits _ _ a b x (clients_full_fits a client)
    (line_fits _ _ a b x (full_fits a 1)
    (entered_fits a b moment _ x _ welcome)))))
step_fits a b moment (Request key call) x legal before after fits =
    line_fits _ _ a b x (other_epoch_fits a key before)
    (line_fits _ _ a b x (no_session_fits a key)
    (line_fits _ _ a b x (old_incarnation_fits a key.client key.incarnation before)
    (line_fits _ _ a b x (old_number_fits a key before)
    (WhereElse-elim _ _ _ (FitsAnswer x) (λ is. line_fits _ _ a b x (other_call_fits a key call)
    (λ again. told_fits a key x (subst Legal again.account legal) before fits.0 again.answers))
    (line_fits _ _ a b x (busy_fits a key before)
    (line_fits _ _ a b x (gap_fits a key before)
    (line_fits _ _ a b x (full_fits a _)
    (entered_fits a b moment _ x _ (told_fits b key x legal after fits.0)))))))))
step_fits a b moment (Cancel key) x legal before after fits =
    let cancelled = λ (is : x ≡ Replied key Cancelled). subst FitsAnswer (sym is) (fits, cancelled_fits, tt)
    in
    line_fits _ _ a b x (other_epoch_fits a key before)
    (line_fits _ _ a b x (no_session_fits a key)
    (line_fits _ _ a b x (old_incarnation_fits a key.client key.incarnation before)
    (line_fits _ _ a b x (old_number_fits a key before)
    (WhereElse-elim _ _ _ (FitsAnswer x) (λ is. WhereElse-elim _ _ _ (FitsAnswer x) (λ waits ends. cancelled
    ends.1) (λ again. told_fits a key x (subst Legal again.account legal) before fits again.answers))
    (line_fits _ _ a b x (busy_fits a key before)
    (line_fits _ _ a b x (gap_fits a key before)
    (line_fits _ _ a b x (full_fits a 1)
    (entered_fits a b moment _ x _ (λ (replies : Replies b key x). told_fits b key x legal after fits
    (inl replies))))))))))
