-- In a legal account a key is told one thing at most: a reply, or that its request waits.
use Rattle.rv_account.proofs.OfState.Words.{◌≡◌, ◌⊎◌, ◌∙◌, inl, inr, ℕ, List, take, Some, option_and_then}
use Rattle.rv_account.proofs.OfState.Words.{refl, sym}
use Rattle.rv_account.proofs.OfState.Words.{ap, subst, cases_order, same_Some, Answer, Replied, Reply, Call}
use Rattle.rv_account.proofs.OfState.Words.{Gives}
use Rattle.rv_account.proofs.OfState.Words.{Takes, Wait, Key, item_of, Arrive, Entry, Account, act_at}
use Rattle.rv_account.proofs.OfState.Words.{call_at, call_in}
use Rattle.rv_account.proofs.OfState.Words.{may_name, Legal, WaitsUnder, GetsItem, IsFrontItem, MeetsKey}
use Rattle.rv_account.proofs.OfState.Words.{RepliesAt}
use Rattle.rv_account.proofs.OfState.Words.{RepliesMet, RepliesUnmet, Answers, Met, OpenAt, Waiting}
use Rattle.rv_account.proofs.OfState.Words.{arrives_once}
use Rattle.rv_account.specs.Account.{key_at}
use Rattle.rv_account.specs.rules.Replies.{HasReply, Meet}
use Rattle.rv_account.specs.rules.Waiting.{IsOldest}
use Rattle.rv_account.proofs.OfRules.Counting.{one_number}
use Rattle.rv_account.proofs.OfRules.FirstStops.{one_told_stopped}
use Rattle.rv_account.proofs.OfRules.Getting.{gets_met, one_item}
use Rattle.rv_account.proofs.OfRules.OnePartner.{meets_one}
use Rattle.rv_account.proofs.OfState.UnmetReplies.{ByLasting, by_lasting}
use Rattle.rv_account.proofs.OfState.StayingReplies.{waits_untold}
use Rattle.rv_text.specs.declared.answer.Reply as reply
use Rattle.rv_text.specs.declared.call.Call as call

-- ---- what is told of a wait

pub one_unmet : (wait : Wait) (es : List Entry) (r : ℕ) (at_once x y : Reply)
    → RepliesUnmet es r wait at_once x
    → RepliesUnmet es r wait at_once y → y ≡ x
one_unmet wait es r at_once x y first second =
    one_by_lasting (by_lasting wait es r at_once x first) (by_lasting wait es r at_once y second)
  where
    one_by_lasting : ByLasting es r wait at_once x → ByLasting es r wait at_once y → y ≡ x
    one_by_lasting (inl one) (inl two) = one_told_stopped es r x y one.1 two.1
    one_by_lasting (inl one) (inr two) = absurd (two.0 one.0)
    one_by_lasting (inr one) (inl two) = absurd (one.0 two.0)
    one_by_lasting (inr one) (inr two) = two.1 ∙ sym one.1

-- ---- a call that is told when it is met, or by its wait

module _ (es : List Entry) (r : ℕ) (own : Call) (wait : Wait) (at_once : Reply) (Tells : Reply → Type 0)
    (was_met : (told : Reply) → Tells told → Met es r) where
  abbrev ByMeeting : Reply → Type 0
  ByMeeting told = Tells told ⊎ ((Met es r → ⊥) × RepliesUnmet es r wait at_once told)

  one_by : ((x y : Reply) → Tells x → Tells y → y ≡ x) → (x y : Reply) → ByMeeting x → ByMeeting y → y ≡ x
  one_by one x y (inl first) (inl second) = one x y first second
  one_by one x y (inl first) (inr second) = absurd (second.0 (was_met x first))
  one_by one x y (inr first) (inl second) = absurd (first.0 (was_met y second))
  one_by one x y (inr first) (inr second) = one_unmet wait es r at_once x y first.1 second.1

-- ---- receipts and items

pub meet_back : (es : List Entry) (r s : ℕ) → Meet es r s → Meet es s r
meet_back es r s (inl names) = inr names
meet_back es r s (inr names) = inl names

pub one_taker : (a : Account) (r : ℕ) (own : Call) (x y : Key) → Legal a → call_at a.entries r ≡ Some own
    → may_name own ≡ 1 → MeetsKey a.entries r x → MeetsKey a.entries r y → x ≡ y
one_taker a r own x y legal arrived single first second =
    let place : first.place ≡ second.place =
    meets_one a r first.place second.place own legal arrived single
    (meet_back a.entries r first.place first.meet) (meet_back a.entries r second.place second.meet) in
    same_Some _ _ (sym first.named ∙ ap (key_at a.entries) place ∙ second.named)

one_receipt : (a : Account) (r : ℕ) (own : Call) (x y : Reply) → Legal a → call_at a.entries r ≡ Some own
    → may_name own ≡ 1 → RepliesMet a.entries r x → RepliesMet a.entries r y → y ≡ x
one_receipt a r own x y legal arrived single (inl first) (inl second) =
    second.3 ∙ ap reply.TheVariants.ReceivedBy
    (one_taker a r own second.1 first.1 legal arrived single second.2 first.2) ∙ sym first.3
one_receipt a r own x y legal arrived single (inl first) (inr second) = absurd (second.0 first.0)
one_receipt a r own x y legal arrived single (inr first) (inl second) = absurd (first.0 second.0)
one_receipt a r own x y legal arrived single (inr first) (inr second) = second.1 ∙ sym first.1

abbrev TellsItem : List Entry → ℕ → (List ℕ → Reply) → Reply → Type 0
TellsItem es r told_with told = (item : List ℕ) × GetsItem es r item × (told ≡ told_with item)

one_told_item : (b : Account) (r : ℕ) (own : Call) (told_with : List ℕ → Reply) → Legal b
    → call_at b.entries r ≡ Some own → may_name own ≡ 1 → (x y : Reply) → TellsItem b.entries r told_with x
    → TellsItem b.entries r told_with y → y ≡ x
one_told_item b r own told_with legal arrived single x y first second =
    second.2 ∙ ap told_with (one_item b r own second.0 first.0 legal arrived single second.1 first.1)
    ∙ sym first.2

-- ---- counts and peeks

pub same_counts : (a b c d : ℕ) → a ≡ b → c ≡ d → reply.TheVariants.Counted a c ≡ reply.TheVariants.Counted b
    d
same_counts a b c d p q = cc

one_count : (queue : ℕ) (es : List Entry) (r : ℕ) (x y : Reply)
    → RepliesAt es r (call.TheVariants.Count queue) x → RepliesAt es r (call.TheVariants.Count queue) y
    → y ≡ x
one_count queue es r x y (i, c, first, is) (j, d, second, also) =
    let items : j ≡ i = one_number (OpenAt (take r es) (Gives queue)) j i second.items_are first.items_are in
    let consumers : d ≡ c =
    one_number (OpenAt (take r es) (Takes queue)) d c second.consumers_are first.consumers_are in
    also ∙ same_counts j i d c items consumers ∙ sym is

pub one_oldest : (es : List Entry) (queue p q : ℕ) → IsOldest es (Gives queue) p → IsOldest es (Gives queue) q
    → p ≡ q
one_oldest es queue p q first second = elim (cases_order p q) [
  | inl same ↦ same
  | inr differ ↦ elim differ [
    | inl less ↦ absurd (second.oldest p less first.there)
    | inr more ↦
        absurd (first.oldest q more second.there)
  ]
]

one_front : (es : List Entry) (queue : ℕ) (x y : List ℕ) → IsFrontItem es queue x → IsFrontItem es queue y
    → y ≡ x
one_front es queue x y first second =
    let place : second.place ≡ first.place =
    one_oldest es queue second.place first.place second.oldest first.oldest in
    let one = first.oldest.there.of_side in
    let two = second.oldest.there.of_side in
    let same : two.call ≡ one.call = same_Some _ _ (sym two.arrived ∙ ap (call_at es) place ∙ one.arrived) in
    same_Some _ _ (sym second.hands_over ∙ ap item_of same ∙ first.hands_over)

one_peek : (queue : ℕ) (es : List Entry) (r : ℕ) (x y : Reply)
    → RepliesAt es r (call.TheVariants.Peek queue) x → RepliesAt es r (call.TheVariants.Peek queue) y → y ≡ x
one_peek queue es r x y (inl first) (inl second) =
    second.2 ∙ ap reply.TheVariants.Peeked (one_front (take r es) queue first.0 second.0 first.1 second.1)
    ∙ sym first.2
one_peek queue es r x y (inl first) (inr second) = absurd (second.0 first.1.place first.1.oldest.there)
one_peek queue es r x y (inr first) (inl second) = absurd (first.0 second.1.place second.1.oldest.there)
one_peek queue es r x y (inr first) (inr second) = second.1 ∙ sym first.1

-- ---- each call

pub one_replied : (own : Call) (b : Account) (r : ℕ) (x y : Reply) → Legal b → call_at b.entries r ≡ Some own
    → RepliesAt b.entries r own x → RepliesAt b.entries r own y → y ≡ x
one_replied (call.TheVariants.Put queue item) b r x y legal arrived first second = second ∙ sym first
one_replied (call.TheVariants.Transfer queue item wait) b r x y legal arrived first second =
    one_by b.entries r (call.TheVariants.Transfer queue item wait) wait reply.TheVariants.Nobody
    (λ told. Met b.entries r × RepliesMet b.entries r told) (λ told tells. tells.0)
    (λ p q one two. one_receipt b r (call.TheVariants.Transfer queue item wait) p q legal arrived refl one.1
    two.1) x y first second
one_replied (call.TheVariants.Take queue wait) b r x y legal arrived first second =
    one_by b.entries r (call.TheVariants.Take queue wait) wait reply.TheVariants.Empty
    (TellsItem b.entries r reply.TheVariants.Item) (λ told tells. gets_met b.entries r tells.0 tells.1)
    (one_told_item b r (call.TheVariants.Take queue wait) reply.TheVariants.Item legal arrived refl) x y first
    second
one_replied (call.TheVariants.Swap exchanger item wait) b r x y legal arrived first second =
    one_by b.entries r (call.TheVariants.Swap exchanger item wait) wait reply.TheVariants.TimedOut
    (TellsItem b.entries r reply.TheVariants.Swapped) (λ told tells. gets_met b.entries r tells.0 tells.1)
    (one_told_item b r (call.TheVariants.Swap exchanger item wait) reply.TheVariants.Swapped legal arrived
    refl) x y first second
one_replied (call.TheVariants.Count queue) b r x y legal arrived first second =
    one_count queue b.entries r x y first second
one_replied (call.TheVariants.Peek queue) b r x y legal arrived first second =
    one_peek queue b.entries r x y first second
one_replied (call.TheVariants.Drain queue max) b r x y legal arrived first second =
    second.2 ∙ ap reply.TheVariants.Drained (same_Some _ _ (sym second.1 ∙ first.1)) ∙ sym first.2

-- ---- a key

pub one_call : (key : Key) (c d : Call) → Some (Arrive key c) ≡ Some (Arrive key d) → c ≡ d
one_call key c d e = cc

pub one_reply : (b : Account) (key : Key) (x y : Reply) → Legal b → HasReply b.entries key x
    → HasReply b.entries key y → y ≡ x
one_reply b key x y legal (inl first) (inl second) =
    let place : second.place ≡ first.place =
    arrives_once b second.place first.place key second.call first.call legal second.arrived
    first.arrived in
    let same : second.call ≡ first.call =
    one_call key second.call first.call
    (sym second.arrived ∙ ap (act_at b.entries) place ∙ first.arrived) in
    let moved = subst (λ r. RepliesAt b.entries r first.call y) place
    (subst (λ c. RepliesAt b.entries second.place c y) same second.replies) in
    one_replied first.call b first.place x y legal (ap (option_and_then call_in) first.arrived) first.replies
    moved
one_reply b key x y legal (inl first) (inr second) =
    absurd (second.0.not_arrived first.place first.call first.arrived)
one_reply b key x y legal (inr first) (inl second) =
    absurd (first.0.not_arrived second.place second.call second.arrived)
one_reply b key x y legal (inr first) (inr second) = second.1 ∙ sym first.1

-- who waits has no reply
pub reply_or_waits : (b : Account) (key : Key) (told : Reply) → Legal b → HasReply b.entries key told
    → WaitsUnder b.entries key → ⊥
reply_or_waits b key told legal (inl has) waits =
    let place : waits.place ≡ has.place =
    arrives_once b waits.place has.place key waits.call has.call legal waits.arrived has.arrived in
    let there : Waiting b.entries has.place = subst (Waiting b.entries) place waits.waits in
    waits_untold has.call b.entries has.place told (ap (option_and_then call_in) has.arrived) there
    has.replies
reply_or_waits b key told legal (inr first) waits = first.0.not_arrived waits.place waits.call waits.arrived

pub one_told : (b : Account) (key : Key) (x y : Answer) → Legal b → Answers b key x → Answers b key y → y ≡ x
one_told b key x y legal (inl first) (inl second) =
    second.is ∙ ap (Replied key) (one_reply b key first.reply second.reply legal first.has second.has)
    ∙ sym first.is
one_told b key x y legal (inl first) (inr second) =
    absurd (reply_or_waits b key first.reply legal first.has second.0)
one_told b key x y legal (inr first) (inl second) =
    absurd (reply_or_waits b key second.reply legal second.has first.0)
one_told b key x y legal (inr first) (inr second) = second.1 ∙ sym first.1
