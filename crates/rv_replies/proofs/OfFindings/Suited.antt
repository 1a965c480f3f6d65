-- What a legal account gives a request is a reply that its call may be told.
use Rattle.std.specs.Prelude.{◌≤◌, zero, suc, List, [], ◌∷◌, length, slice_get}
use Rattle.rv_account.proofs.OfState.Words.{◌≡◌, ◌∙◌, ◌⊎◌, ap, arith, inl, inr, option_and_then, refl}
use Rattle.rv_account.proofs.OfState.Words.{subst, sym, ℕ}
use Rattle.rv_account.proofs.OfState.Words.{Option, Some, None, Account, act_at, Legal, Call}
use Rattle.rv_account.proofs.OfState.Words.{Key, Reply}
use Rattle.rv_account.proofs.OfState.Words.{Wait, call_in, option_map}
use Rattle.rv_account.specs.declared.entry.Entry.{Entry}
use Rattle.rv_account.specs.declared.entry.Act.TheVariants.{Arrive}
use Rattle.rv_account.proofs.OfState.Filtered.{chained_there, mapped_there}
use Rattle.rv_text.specs.declared.answer.Reply.TheVariants as reply
use Rattle.rv_text.specs.declared.call.Call.TheVariants as call
use Rattle.rv_text.specs.declared.call.Wait.TheVariants.{Forever, Millis, Now}
use Rattle.rv_text.specs.Calls.{wait_of}
use Rattle.rv_account.specs.Account.{item_at, items_at, limit_at, limit_in, partners_items}
use Rattle.rv_account.specs.Calls.{limit_after, limit_of}
use Rattle.rv_account.specs.declared.entry.Act.{Act}
use Rattle.rv_account.specs.declared.entry.Act.TheVariants.{Cancel, Hello, Tick}
use Rattle.rv_account.specs.rules.Replies.{RepliesAt, RepliesMet, RepliesUnmet, told_by}
use Rattle.rv_account.specs.rules.Waiting.{EndsWait, HasElapsed}
use Rattle.rv_account.specs.state.resume.Suiting.{EndsUnmet, SuitsCall, TellsReceipt}
use Rattle.rv_text.specs.declared.version.Version.TheVariants.{One, Two}
use Rattle.rv_replies.specs.findings.Findings.{MayBeTold}
use Rattle.rv_replies.specs.findings.Laws.{GivenMayBeTold}

-- ---- what stops a wait

-- a wait for ever has no limit
no_limit : (es : List Entry) (r : ℕ) (key : Key) (c : Call) → act_at es r ≡ Some (Arrive key c)
    → wait_of c ≡ Some Forever → limit_at es r ≡ None
no_limit es r key c arrived waits =
    let found = mapped_there (λ (e : Entry). e.act) (slice_get es r) (Arrive key c) arrived in
    ap (option_and_then limit_in) found.1
    ∙ ap (λ (d : Act). option_and_then (limit_of found.0.moment) (call_in d)) found.2
    ∙ ap (option_and_then (limit_after found.0.moment)) waits

by_act : (does : Act) → (told_by does ≡ reply.TimedOut) ⊎ (told_by does ≡ reply.Cancelled)
by_act (Hello client incarnation version) = inr refl
by_act (Arrive key c) = inr refl
by_act (Cancel key) = inr refl
by_act Tick = inl refl

-- what has no limit, no tick stops
unlimited : (does : Act) (moment : ℕ) (key : Key) (limit : Option ℕ) → limit ≡ None
    → EndsWait does moment key limit → told_by does ≡ reply.Cancelled
unlimited (Hello client incarnation version) moment key limit none ends = refl
unlimited (Arrive other c) moment key limit none ends = refl
unlimited (Cancel other) moment key limit none ends = refl
unlimited Tick moment key limit none ends =
    absurd (subst (λ (o : Option ℕ). HasElapsed o moment) none ends)

ends_unmet : (wait : Wait) (es : List Entry) (r : ℕ) (at_once told : Reply)
    → (wait ≡ Forever → limit_at es r ≡ None) → RepliesUnmet es r wait at_once told
    → EndsUnmet wait at_once told
ends_unmet Now es r at_once told none replies = replies
ends_unmet (Millis zero) es r at_once told none replies = replies
ends_unmet (Millis (suc n)) es r at_once told none replies =
    elim (by_act replies.stop.stops.stopper.act) [
      | inl out ↦ inl (replies.is ∙ out)
      | inr cancelled ↦ inr (replies.is ∙ cancelled)
    ]
ends_unmet Forever es r at_once told none replies =
    let stopped = replies.stop.stops in
    replies.is
    ∙ unlimited stopped.stopper.act stopped.stopper.moment stopped.key (limit_at es r) (none refl)
    stopped.ends

-- ---- drains

as_many : (es : List Entry) (places : List ℕ) (items : List (List ℕ)) → items_at es places ≡ Some items
    → length items ≡ length places
as_many es [] items is = sym (ap (λ (o : Option (List (List ℕ))). count o) is)
  where
    count : Option (List (List ℕ)) → ℕ
    count None = 0
    count (Some xs) = length xs
as_many es (place ∷ places) items is =
    let first = chained_there (λ (item : List ℕ). option_map (λ xs. item ∷ xs) (items_at es places))
    (item_at es place) items is in
    let rest = mapped_there (λ (xs : List (List ℕ)). first.0 ∷ xs) (items_at es places) items first.2 in
    let same = as_many es places rest.0 rest.1 in
    let whole = ap length rest.2 in
    omega (arith, same, whole)

few_drained : (a : Account) (r : ℕ) (key : Key) (queue max : ℕ) (items : List (List ℕ)) → Legal a
    → act_at a.entries r ≡ Some (Arrive key (call.Drain queue max))
    → partners_items a.entries r ≡ Some items → length items ≤ max
few_drained a r key queue max items legal arrived drains =
    let found = mapped_there (λ (e : Entry). e.act) (slice_get a.entries r) _ arrived in
    let e : Entry = found.0 in
    let few : length e.partners ≤ max = (legal r e found.1).pairs.names_free_partners.few
    (call.Drain queue max) (ap call_in found.2) in
    let their : items_at a.entries e.partners ≡ Some items =
    sym (ap (λ (o : Option Entry). option_and_then (items_at a.entries) (option_map (λ x. x.partners) o))
    found.1)
    ∙ drains in
    let same = as_many a.entries e.partners items their in
    omega (arith, few, same)

-- ---- receipts

receipt : (es : List Entry) (r : ℕ) (told : Reply) → RepliesMet es r told
    → TellsReceipt One told ⊎ TellsReceipt Two told
receipt es r told (inl two) = inr (two.1, two.3)
receipt es r told (inr one) = inl one.1

-- ---- by the call

module _ (a : Account) (legal : Legal a) (r : ℕ) (key : Key) where
  abbrev MaySay : Call → Reply → Type 0
  MaySay c told = SuitsCall One c told ⊎ SuitsCall Two c told

  never : (c : Call) (wait : Wait) → wait_of c ≡ Some wait → act_at a.entries r ≡ Some (Arrive key c)
      → wait ≡ Forever → limit_at a.entries r ≡ None
  never c wait waits arrived is = no_limit a.entries r key c arrived (waits ∙ ap (λ (w : Wait). Some w) is)

  suited : (c : Call) (told : Reply) → act_at a.entries r ≡ Some (Arrive key c) → RepliesAt a.entries r c told
      → MaySay c told
  suited (call.Put queue item) told arrived replies = inl replies
  suited (call.Transfer queue item wait) told arrived (inl met) =
      elim (receipt a.entries r told met.1) [ inl one ↦ inl (inl one) | inr two ↦ inr (inl two) ]
  suited (call.Transfer queue item wait) told arrived (inr unmet) =
      inl (inr (ends_unmet wait a.entries r reply.Nobody told
      (never (call.Transfer queue item wait) wait refl arrived) unmet.1))
  suited (call.Take queue wait) told arrived (inl met) = inl (inl (met.0, met.2))
  suited (call.Take queue wait) told arrived (inr unmet) =
      inl (inr (ends_unmet wait a.entries r reply.Empty told
      (never (call.Take queue wait) wait refl arrived) unmet.1))
  suited (call.Swap exchanger item wait) told arrived (inl met) = inl (inl (met.0, met.2))
  suited (call.Swap exchanger item wait) told arrived (inr unmet) =
      inl (inr (ends_unmet wait a.entries r reply.TimedOut told
      (never (call.Swap exchanger item wait) wait refl arrived) unmet.1))
  suited (call.Count queue) told arrived replies = inl (replies.0, replies.1, replies.3)
  suited (call.Peek queue) told arrived (inl front) = inl (inl (front.0, front.2))
  suited (call.Peek queue) told arrived (inr none) = inl (inr none.1)
  suited (call.Drain queue max) told arrived replies =
      inl (replies.0, replies.2, few_drained a r key queue max replies.0 legal arrived replies.1)

may_say : (c : Call) (told : Reply) → SuitsCall One c told ⊎ SuitsCall Two c told → MayBeTold c told
may_say c told (inl one) = inl one
may_say c told (inr two) = inr (inl two)

pub given_may_be_told : GivenMayBeTold
given_may_be_told a key c told legal (inl has) =
    let its = has.replies in
    let own = suited a legal its.place key its.call told its.arrived its.replies in
    may_say c told (subst (λ (d : Call). SuitsCall One d told ⊎ SuitsCall Two d told) has.with_call own)
given_may_be_told a key c told legal (inr first) = inr (inr first.1)
