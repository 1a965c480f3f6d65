-- The reply of a request in an account within its limits is within its own, and names a consumer of its
-- epoch,
-- if it names one.
use Rattle.rv_book.proofs.Words.{◌≡◌, ◌+◌, ◌≤◌, inl, inr, ℕ, List, length, take, Some, refl, sym, subst}
use Rattle.rv_book.proofs.Words.{arith}
use Rattle.rv_book.proofs.Words.{slice_get, Act, Arrive, Cancel, Hello, Tick, Reply, Call, Gives, Key, Side}
use Rattle.rv_book.proofs.Words.{Takes, Wait, Now, Millis, Forever, FitsItem, Entry, Account, act_at, call_at}
use Rattle.rv_book.proofs.Words.{call_in, key_at, key_in, Legal, FitsAccount, NumberOf, RepliesAt, told_by}
use Rattle.rv_book.proofs.Words.{OpenAt, read_there, read_whole, reads_within, call_read, key_read, act_fits}
use Rattle.rv_book.proofs.Words.{act_there}
use Rattle.std.proofs.Common.{length-take}
use Rattle.rv_text.specs.Limits.{FitsKey, FitsReply, IsOfEpoch}
use Rattle.rv_text.proofs.Kept.{cancelled_fits, done_fits, empty_fits, item_fits, nobody_fits, peeked_fits}
use Rattle.rv_text.proofs.Kept.{received_fits, swapped_fits, timed_out_fits}
use Rattle.rv_text.specs.declared.answer.Reply.TheVariants as reply
use Rattle.rv_text.specs.declared.call.Call.TheVariants as call
use Rattle.rv_book.specs.Replies.{IsFrontItem, RepliesMet, RepliesUnmet}
use Rattle.rv_account.proofs.OfRules.Counting.{number_below}
use Rattle.rv_account.proofs.OfRules.Deciding.{find_waiting}
use Rattle.rv_account.proofs.OfRules.Getting.{given_fits}
use Rattle.rv_account.proofs.OfRules.WithinLimits.{call_of_act, key_of_act}
use Rattle.rv_account.proofs.OfState.UnmetReplies.{by_lasting, told_at_once}
use Rattle.rv_book.proofs.Drains.{fits_drained}

abbrev pub FitsIn : ℕ → Reply → Type 0
FitsIn epoch told = FitsReply told × IsOfEpoch epoch told

-- ---- one that met nobody

ended_fits : (epoch : ℕ) (does : Act) → FitsIn epoch (told_by does)
ended_fits epoch (Hello client incarnation version) = (cancelled_fits, tt)
ended_fits epoch (Arrive key own) = (cancelled_fits, tt)
ended_fits epoch (Cancel key) = (cancelled_fits, tt)
ended_fits epoch Tick = (timed_out_fits, tt)

at_once_fits : (epoch : ℕ) (wait : Wait) (at_once : Reply) → FitsIn epoch at_once
    → FitsIn epoch (told_at_once wait at_once)
at_once_fits epoch Now at_once fits = fits
at_once_fits epoch (Millis n) at_once fits = (timed_out_fits, tt)
at_once_fits epoch Forever at_once fits = fits

unmet_fits : (epoch : ℕ) (wait : Wait) (es : List Entry) (r : ℕ) (at_once told : Reply)
    → FitsIn epoch at_once → RepliesUnmet es r wait at_once told → FitsIn epoch told
unmet_fits epoch wait es r at_once told fits replies = elim (by_lasting wait es r at_once told replies) [
  | inl lasts ↦ subst (FitsIn epoch) (sym lasts.1.is) (ended_fits epoch lasts.1.stop.stops.stopper.act)
  | inr passes ↦ subst (FitsIn epoch) (sym passes.1) (at_once_fits epoch wait at_once fits)
]

-- ---- one that met a consumer

taker_fits : (a : Account) (r : ℕ) (key : Key) → Legal a → FitsAccount a → key_at a.entries r ≡ Some key
    → FitsIn a.epoch (reply.ReceivedBy key)
taker_fits a r key legal fits named =
    let does = act_there key_in (act_at a.entries r) key named in
    let fitting : FitsKey key = key_of_act does.0 key (act_fits a r does.0 fits does.1) does.2 in
    let at = read_there key_read refl (slice_get a.entries r) key named in
    ((fitting.1, (fitting.2, fitting.3)), ((legal r at.0 at.1).numbers.of_session key at.2).0)

receipt_fits : (a : Account) (r : ℕ) (told : Reply) → Legal a → FitsAccount a → RepliesMet a.entries r told
    → FitsIn a.epoch told
receipt_fits a r told legal fits (inl two) = subst (FitsIn a.epoch) (sym two.3)
    (taker_fits a two.2.place two.1 legal fits two.2.named)
receipt_fits a r told legal fits (inr other) = subst (FitsIn a.epoch) (sym other.1) (received_fits, tt)

-- ---- one that looks

number_fits : (a : Account) (r : ℕ) (side : Side) (n : ℕ) → FitsAccount a
    → NumberOf (OpenAt (take r a.entries) side) n → n ≤ 100000
number_fits a r side n fits count =
    let waiting = find_waiting a.entries in
    let room : length a.entries + waiting.0 ≤ 100000 = fits.room waiting.0 waiting.1 in
    let short : length (take r a.entries) ≤ length a.entries = omega (arith, length-take r a.entries) in
    let most : n ≤ length (take r a.entries) = number_below (OpenAt (take r a.entries) side) n
    (length (take r a.entries))
    (λ p opened. reads_within call_read refl (take r a.entries) p opened.of_side.call opened.of_side.arrived)
    count in
    omega arith

front_fits : (a : Account) (r queue : ℕ) (item : List ℕ) → FitsAccount a
    → IsFrontItem (take r a.entries) queue item → FitsItem item
front_fits a r queue item fits front =
    let giver = front.oldest.there.of_side in
    let whole = read_whole call_read refl a.entries r front.place giver.call giver.arrived in
    let does = act_there call_in (act_at a.entries front.place) giver.call whole.1 in
    item_fits giver.call item (call_of_act does.0 giver.call (act_fits a front.place does.0 fits does.1)
    does.2) front.hands_over

-- ---- each call

pub replied_fits : (own : Call) (a : Account) (r : ℕ) (told : Reply) → Legal a → FitsAccount a
    → call_at a.entries r ≡ Some own → RepliesAt a.entries r own told → FitsIn a.epoch told
replied_fits (call.Put queue item) a r told legal fits arrived is =
    subst (FitsIn a.epoch) (sym is) (done_fits, tt)
replied_fits (call.Transfer queue item wait) a r told legal fits arrived (inl met) =
    receipt_fits a r told legal fits met.1
replied_fits (call.Transfer queue item wait) a r told legal fits arrived (inr unmet) =
    unmet_fits a.epoch wait a.entries r reply.Nobody told (nobody_fits, tt) unmet.1
replied_fits (call.Take queue wait) a r told legal fits arrived (inl met) =
    subst (FitsIn a.epoch) (sym met.2) (given_fits a r met.0 fits met.1, tt)
replied_fits (call.Take queue wait) a r told legal fits arrived (inr unmet) =
    unmet_fits a.epoch wait a.entries r reply.Empty told (empty_fits, tt) unmet.1
replied_fits (call.Swap exchanger item wait) a r told legal fits arrived (inl met) =
    subst (FitsIn a.epoch) (sym met.2) (swapped_fits met.0 (given_fits a r met.0 fits met.1), tt)
replied_fits (call.Swap exchanger item wait) a r told legal fits arrived (inr unmet) =
    unmet_fits a.epoch wait a.entries r reply.TimedOut told (timed_out_fits, tt) unmet.1
replied_fits (call.Count queue) a r told legal fits arrived (items, consumers, counts, is) =
    let first = number_fits a r (Gives queue) items fits counts.items_are in
    let second = number_fits a r (Takes queue) consumers fits counts.consumers_are in
    subst (FitsIn a.epoch) (sym is) ((first, second), tt)
replied_fits (call.Peek queue) a r told legal fits arrived (inl front) =
    subst (FitsIn a.epoch) (sym front.2) (peeked_fits front.0 (front_fits a r queue front.0 fits front.1), tt)
replied_fits (call.Peek queue) a r told legal fits arrived (inr none) =
    subst (FitsIn a.epoch) (sym none.1) (empty_fits, tt)
replied_fits (call.Drain queue max) a r told legal fits arrived drained =
    subst (FitsIn a.epoch) (sym drained.2)
    (fits_drained queue max a r drained.0 legal fits arrived drained.1, tt)
