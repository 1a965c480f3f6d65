-- A step under limits leaves no choice, want of memory aside, and time-outs alone leave none.
use Rattle.rv_account.specs.declared.entry.Act as act
use Rattle.rv_account.proofs.OfState.Words.{◌∙◌, ◌≡◌, Account, with_entry, Act, Answers, Answer, Call, Entry}
use Rattle.rv_account.proofs.OfState.Words.{OldIncarnation, Legal, Key, Version, Message, List, Option}
use Rattle.rv_account.proofs.OfState.Words.{None, Some, ap}
use Rattle.rv_account.proofs.OfState.Words.{inl, inr, subst, sym, ℕ, Refusal, one_incarnation}
use Rattle.rv_account.proofs.OfState.Words.{one_last_number}
use Rattle.std.specs.Prelude.{◌≢◌}
use Rattle.rv_text.specs.declared.message.Message.TheVariants.{Cancel, Hello, Request}
use Rattle.rv_text.specs.declared.answer.Answer.TheVariants.{Refused}
use Rattle.rv_text.specs.declared.answer.Refusal.TheVariants.{Busy, Gap, NoMemory, OldNumber, OtherVersion}
use Rattle.rv_account.specs.Calls.{need_of}
use Rattle.rv_account.specs.rules.StepLimits.{StepLimits}
use Rattle.rv_account.specs.rules.Steps.{Adds, BusyDue, ClientsFullDueUnder, EntersOrNoMemory}
use Rattle.rv_account.specs.rules.Steps.{EpochFullDueUnder}
use Rattle.rv_account.specs.rules.Steps.{GapDue, KeyLines, NextAtUnder, NoSessionDue, OldIncarnationDue}
use Rattle.rv_account.specs.rules.Steps.{OldNumberDue}
use Rattle.rv_account.specs.rules.Steps.{OtherCallDue, OtherEpochDue, OtherVersionDue, PlaceLine}
use Rattle.rv_account.specs.rules.Steps.{PlacesFullDue}
use Rattle.rv_account.specs.rules.Steps.{RefuseOr, Refuses, Repeats, Replies, WhereElse, step_moment}
use Rattle.rv_account.proofs.OfRules.Legality.{follows_itself}
use Rattle.rv_account.proofs.OfRules.SamePartners.{same_partners}
use Rattle.rv_account.proofs.OfRules.Versions.{one_opened}
use Rattle.rv_account.specs.state.StepLaws.{OneNextUnder, OneTicked}
use Rattle.rv_account.proofs.OfState.OneTold.{one_told}

-- ---- the lines

-- of a refusal that is due in one way alone, and of what follows, two readings agree
both_refuse : (D R S : Refusal → Type 0) (O P G : Type 0) → ((p q : Refusal) → D p → D q → p ≡ q)
    → ((p : Refusal) → R p → S p → G) → (O → P → G) → RefuseOr D R O → RefuseOr D S P → G
both_refuse D R S O P G one refused goes_on (inl h) (inl k) = refused k.refusal
    (subst R (one h.refusal k.refusal h.is_due k.is_due) h.refuses_it) k.refuses_it
both_refuse D R S O P G one refused goes_on (inl h) (inr k) = absurd (k.0 h.refusal h.is_due)
both_refuse D R S O P G one refused goes_on (inr h) (inl k) = absurd (h.0 k.refusal k.is_due)
both_refuse D R S O P G one refused goes_on (inr h) (inr k) = goes_on h.1 k.1

both_where : (C T U O P G : Type 0) → (T → U → G) → (O → P → G) → WhereElse C T O → WhereElse C U P → G
both_where C T U O P G this that (inl h) (inl k) = this h.1 k.1
both_where C T U O P G this that (inl h) (inr k) = absurd (k.0 h.0)
both_where C T U O P G this that (inr h) (inl k) = absurd (h.0 k.0)
both_where C T U O P G this that (inr h) (inr k) = that h.1 k.1

one_other_epoch : (a : Account) (key : Key) (p q : Refusal) → OtherEpochDue a key p → OtherEpochDue a key q
    → p ≡ q
one_other_epoch a key p q first second = first.1 ∙ sym second.1

one_no_session : (a : Account) (key : Key) (p q : Refusal) → NoSessionDue a key p → NoSessionDue a key q
    → p ≡ q
one_no_session a key p q first second = first.1 ∙ sym second.1

one_old_incarnation : (a : Account) (client incarnation : ℕ) (p q : Refusal)
    → OldIncarnationDue a client incarnation p → OldIncarnationDue a client incarnation q → p ≡ q
one_old_incarnation a client incarnation p q first second =
    first.is ∙ ap OldIncarnation (one_incarnation a.entries client first.current second.current first.has
    second.has) ∙ sym second.is

one_other_version : (a : Account) (client incarnation : ℕ) (version : Version) (p q : Refusal)
    → OtherVersionDue a client incarnation version p → OtherVersionDue a client incarnation version q → p ≡ q
one_other_version a client incarnation version p q first second =
    first.is ∙ ap OtherVersion (one_opened a.entries client incarnation incarnation first.current
    second.current first.has second.has) ∙ sym second.is

one_old_number : (a : Account) (key : Key) (p q : Refusal) → OldNumberDue a key p → OldNumberDue a key q
    → p ≡ q
one_old_number a key p q first second = first.is ∙ ap OldNumber (one_last_number a.entries key.client
    first.last second.last first.is_last second.is_last) ∙ sym second.is

one_gap : (a : Account) (key : Key) (p q : Refusal) → GapDue a key p → GapDue a key q → p ≡ q
one_gap a key p q first second = first.is ∙ ap Gap (one_last_number a.entries key.client first.last
    second.last first.is_last second.is_last) ∙ sym second.is

one_other_call : (a : Account) (key : Key) (call : Call) (p q : Refusal) → OtherCallDue a key call p
    → OtherCallDue a key call q → p ≡ q
one_other_call a key call p q first second = first.is ∙ sym second.is

one_busy : (a : Account) (key : Key) (p q : Refusal) → BusyDue a key p → BusyDue a key q → p ≡ q
one_busy a key p q first second = first.is ∙ ap Busy (one_last_number a.entries key.client first.last
    second.last first.is_last second.is_last) ∙ sym second.is

one_clients_full : (limits : StepLimits) (a : Account) (client : ℕ) (p q : Refusal)
    → ClientsFullDueUnder limits a client p → ClientsFullDueUnder limits a client q → p ≡ q
one_clients_full limits a client p q first second = first.is ∙ sym second.is

one_full : (limits : StepLimits) (a : Account) (need : ℕ) (p q : Refusal)
    → EpochFullDueUnder limits a need p → EpochFullDueUnder limits a need q → p ≡ q
one_full limits a need p q first second = first.is ∙ sym second.is

one_place_full : (most : ℕ) (a : Account) (call : Call) (p q : Refusal) → PlacesFullDue most a call p
    → PlacesFullDue most a call q → p ≡ q
one_place_full most a call p q first second = first.is ∙ sym second.is

-- the lines for a key, and that of a bound on open places
both_key_lines : (a : Account) (key : Key) (R S : Refusal → Type 0) (L M O P G : Type 0)
    → ((p : Refusal) → R p → S p → G) → (L → M → G) → (O → P → G) → KeyLines a key R L O
    → KeyLines a key S M P → G
both_key_lines a key R S L M O P G refused at_last above =
    both_refuse _ R S _ _ G (one_other_epoch a key) refused
    (both_refuse _ R S _ _ G (one_no_session a key) refused
    (both_refuse _ R S _ _ G (one_old_incarnation a key.client key.incarnation) refused
    (both_refuse _ R S _ _ G (one_old_number a key) refused
    (both_where _ L M _ _ G at_last
    (both_refuse _ R S _ _ G (one_busy a key) refused
    (both_refuse _ R S O P G (one_gap a key) refused above))))))

both_place_line : (bound : Option ℕ) (a : Account) (call : Call) (R S : Refusal → Type 0) (O P G : Type 0)
    → ((p : Refusal) → R p → S p → G) → (O → P → G) → PlaceLine bound a call R O → PlaceLine bound a call S P
    → G
both_place_line None a call R S O P G refused enters = enters
both_place_line (Some most) a call R S O P G refused enters =
    both_refuse _ R S O P G (one_place_full most a call) refused enters

-- ---- the entry

entry_of : ℕ → Act → List ℕ → Entry
entry_of moment does partners = record { moment = moment; act = does; partners = partners }

one_added : (a b c : Account) (moment : ℕ) (does : Act) → Adds a moment does b → Adds a moment does c → b ≡ c
unfolding entry_of
one_added a b c moment does first second =
    let e = first.entry in
    let f = second.entry in
    let follows = follows_itself a e (subst Legal first.follows first.legal) in
    let also = follows_itself a f (subst Legal second.follows second.legal) in
    let acts : e.act ≡ f.act = first.act_is ∙ sym second.act_is in
    let moments : e.moment ≡ f.moment = first.moment_is ∙ sym second.moment_is in
    let partners : e.partners ≡ f.partners = same_partners a e f follows also acts in
    let same : entry_of e.moment e.act e.partners ≡ entry_of f.moment f.act f.partners = cc in
    first.follows ∙ ap (with_entry a) same ∙ sym second.follows

-- ---- the step

abbrev Same : Account → Account → Answer → Answer → Type 0
Same b c x y = (b ≡ c) × (x ≡ y)

one_refused : (a b c : Account) (x y : Answer) (refusal : Refusal) → Refuses a b x refusal
    → Refuses a c y refusal → Same b c x y
one_refused a b c x y refusal first second = (first.0 ∙ sym second.0, first.1 ∙ sym second.1)

one_answer : (b c : Account) (key : Key) (x y : Answer) → Legal c → b ≡ c → Answers b key x → Answers c key y
    → x ≡ y
one_answer b c key x y legal same first second = one_told c key y x legal second
    (subst (λ (d : Account). Answers d key x) same first)

one_welcome : (a b c : Account) (moment client incarnation : ℕ) (version : Version) (x y w : Answer)
    → x ≢ Refused NoMemory → y ≢ Refused NoMemory
    → EntersOrNoMemory a moment (act.TheVariants.Hello client incarnation version) b x (x ≡ w)
    → EntersOrNoMemory a moment (act.TheVariants.Hello client incarnation version) c y (y ≡ w)
    → Same b c x y
one_welcome a b c moment client incarnation version x y w ample enough (inl h) k = absurd (ample h.1)
one_welcome a b c moment client incarnation version x y w ample enough (inr h) (inl k) = absurd (enough k.1)
one_welcome a b c moment client incarnation version x y w ample enough (inr h) (inr k) =
    (one_added a b c moment _ h.0 k.0, h.1 ∙ sym k.1)

one_replied : (a b c : Account) (moment : ℕ) (key : Key) (does : Act) (x y : Answer) → x ≢ Refused NoMemory
    → y ≢ Refused NoMemory
    → EntersOrNoMemory a moment does b x (Answers b key x)
    → EntersOrNoMemory a moment does c y (Answers c key y) → Same b c x y
one_replied a b c moment key does x y ample enough (inl h) k = absurd (ample h.1)
one_replied a b c moment key does x y ample enough (inr h) (inl k) = absurd (enough k.1)
one_replied a b c moment key does x y ample enough (inr h) (inr k) =
    let same = one_added a b c moment _ h.0 k.0 in
    (same, one_answer b c key x y k.0.legal same h.1 k.1)

-- a reply is an answer
with_answers : (a b : Account) (moment : ℕ) (does : Act) (key : Key) (x : Answer)
    → EntersOrNoMemory a moment does b x (Replies b key x)
    → EntersOrNoMemory a moment does b x (Answers b key x)
with_answers a b moment does key x (inl h) = inl h
with_answers a b moment does key x (inr h) = inr (h.0, inl h.1)

one_repeat : (a b c : Account) (key : Key) (x y : Answer) → Repeats a b key x → Repeats a c key y
    → Same b c x y
one_repeat a b c key x y first second = (first.account ∙ sym second.account, second.only x first.answers)

module _ (limits : StepLimits) (a b c : Account) (moment : ℕ) (x y : Answer) (ample : x ≢ Refused NoMemory)
    (enough : y ≢ Refused NoMemory) where
  refused : (p : Refusal) → Refuses a b x p → Refuses a c y p → Same b c x y
  refused = one_refused a b c x y

  one_next_at : (m : Message) → NextAtUnder limits a moment m b x → NextAtUnder limits a moment m c y
      → Same b c x y
  one_next_at (Hello client incarnation version) =
      both_refuse _ _ _ _ _ (Same b c x y) (one_old_incarnation a client incarnation) refused
      (both_refuse _ _ _ _ _ (Same b c x y) (one_other_version a client incarnation version) refused
      (both_where _ _ _ _ _ (Same b c x y) (λ h k. (h.0 ∙ sym k.0, h.1 ∙ sym k.1))
      (both_refuse _ _ _ _ _ (Same b c x y) (one_clients_full limits a client) refused
      (both_refuse _ _ _ _ _ (Same b c x y) (one_full limits a 1) refused
      (one_welcome a b c moment client incarnation version x y _ ample enough)))))
  one_next_at (Request key call) =
      both_key_lines a key _ _ _ _ _ _ (Same b c x y) refused
      (both_refuse _ _ _ _ _ (Same b c x y) (one_other_call a key call) refused (one_repeat a b c key x y))
      (both_refuse _ _ _ _ _ (Same b c x y) (one_full limits a (need_of call)) refused
      (both_place_line limits.open_places a call _ _ _ _ (Same b c x y) refused
      (one_replied a b c moment key (act.TheVariants.Arrive key call) x y ample enough)))
  one_next_at (Cancel key) =
      both_key_lines a key _ _ _ _ _ _ (Same b c x y) refused
      (both_where _ _ _ _ _ (Same b c x y) (λ h k. (one_added a b c moment _ h.0 k.0, h.1 ∙ sym k.1))
      (one_repeat a b c key x y))
      (both_refuse _ _ _ _ _ (Same b c x y) (one_full limits a 1) refused
      (λ h k. one_replied a b c moment key (act.TheVariants.Cancel key) x y ample enough
      (with_answers a b moment (act.TheVariants.Cancel key) key x h)
      (with_answers a c moment (act.TheVariants.Cancel key) key y k)))

pub one_ticked : OneTicked
one_ticked a b c moment = both_where _ _ _ _ _ (b ≡ c) (one_added a b c moment act.TheVariants.Tick)
    (λ first second. first ∙ sym second)

pub one_next_under : (limits : StepLimits) → OneNextUnder limits
one_next_under limits a b c now m x y first second ample enough =
    let moment : ℕ = step_moment a now in
    let same = one_ticked a second.ticked first.ticked moment second.ticks first.ticks in
    one_next_at limits first.ticked b c moment x y ample enough m first.steps
    (subst (λ (d : Account). NextAtUnder limits d moment m c y) same second.steps)
