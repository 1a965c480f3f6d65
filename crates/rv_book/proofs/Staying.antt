-- Replies, and what is kept of them, stay where an account is extended, and a key is told one thing.
use Rattle.rv_text.specs.declared.answer.Answer as answer
use Rattle.rv_account.specs.declared.entry.Act as act
use Rattle.rv_book.proofs.Words.{◌++◌, ◌<◌, ◌∙◌, ◌≡◌, Account, call_in, key_in, Answer, Entry, CancelledFirst}
use Rattle.rv_book.proofs.Words.{HasReply, Kept, Key, Legal, List, None, Option, Some, ap, arith, inl, inr}
use Rattle.rv_book.proofs.Words.{length, option_and_then, option_map, refl, subst, sym, ℕ, act_read, reads_on}
use Rattle.rv_book.proofs.Words.{reads_within, Reply, IsAsKept, reply_of, get-append_within, cases_lt}
use Rattle.rv_book.proofs.Words.{none-some}
use Rattle.rv_account.specs.Account.{Extends}
use Rattle.rv_book.proofs.KeptReplies.KeptOn.{told_on}
use Rattle.rv_book.specs.Replies.{RepliesToArrival}
use Rattle.rv_book.specs.Laws.{RepliesStay, StepsExtend}
use Rattle.rv_account.specs.rules.StepLimits.{book_limits}
use Rattle.rv_account.proofs.OfRules.OnePartner.{arrives_first}
use Rattle.rv_account.proofs.OfState.Extending.{steps_extend_under}
use Rattle.rv_account.proofs.OfState.OneTold.{one_reply}
use Rattle.rv_account.proofs.OfState.StayingReplies.{reply_stays}

-- ---- a step only adds

pub steps_extend : StepsExtend
steps_extend = steps_extend_under book_limits

-- ---- what is kept of a reply stays

pub mapped : {A B : Type 0} (f : A → B) (o : Option A) (y : B) → option_map f o ≡ Some y
    → (x : A) × (o ≡ Some x)
mapped f None y h = absurd (none-some y h)
mapped f (Some x) y h = (x, refl)

pub kept_stays : (a b : Account) (k : Kept) (r : Reply) → Extends a b → reply_of a.entries k ≡ Some r
    → reply_of b.entries k ≡ Some r
kept_stays a b k r extends is =
    subst (λ (es : List Entry). reply_of es k ≡ Some r) (sym extends.entries)
    (told_on a.entries extends.more k r is)

pub still_kept : (a b : Account) (k : Option Kept) (x : Answer) → Extends a b → IsAsKept a.entries k x
    → IsAsKept b.entries k x
still_kept a b (Some k) (answer.TheVariants.Replied key r) extends is = kept_stays a b k r extends is
still_kept a b k x extends is = is

-- ---- a reply stays, and it is the only one

arrival_on : (es more : List Entry) (epoch opened : ℕ) (key : Key) (reply : Reply)
    → Legal (record { epoch = epoch; opened = opened; entries = es ++ more }) → RepliesToArrival es key reply
    → RepliesToArrival (es ++ more) key reply
arrival_on es more epoch opened key reply legal has = record {
  place = has.place;
  call = has.call;
  arrived = reads_on act_read refl es more has.place (act.TheVariants.Arrive key has.call) has.arrived;
  replies = reply_stays has.call es more epoch opened has.place reply legal
      (ap (option_and_then call_in) has.arrived) has.replies;
}

-- a request that was cancelled first does not come
cancelled_on : (es more : List Entry) (epoch opened : ℕ) (key : Key)
    → Legal (record { epoch = epoch; opened = opened; entries = es ++ more }) → CancelledFirst es key
    → CancelledFirst (es ++ more) key
cancelled_on es more epoch opened key legal first =
    let whole : Account = record { epoch = epoch; opened = opened; entries = es ++ more } in
    let there = reads_on act_read refl es more first.place (act.TheVariants.Cancel key) first.cancelled in
    let inside : first.place < length es = reads_within act_read refl es first.place (act.TheVariants.Cancel
    key) first.cancelled in
    record {
      place = first.place;
      cancelled = there;
      not_arrived = λ r call arrived. elim (cases_lt r (length es)) [
        | inl before ↦ first.not_arrived r call (ap act_read (sym (get-append_within es more r before))
            ∙ arrived)
        | inr behind ↦ arrives_first whole first.place r key call legal (ap (option_and_then key_in) there)
            arrived (omega arith)
      ];
    }

reply_on : (es more : List Entry) (epoch opened : ℕ) (key : Key) (reply : Reply)
    → Legal (record { epoch = epoch; opened = opened; entries = es ++ more }) → HasReply es key reply
    → HasReply (es ++ more) key reply
reply_on es more epoch opened key reply legal (inl has) = inl (arrival_on es more epoch opened key reply legal
    has)
reply_on es more epoch opened key reply legal (inr first) = inr (
  cancelled_on es more epoch opened key legal
      first.0,
  first.1,
)

pub replies_stay : RepliesStay
replies_stay a b key reply before after extends has =
    let whole : b ≡ record { epoch = b.epoch; opened = b.opened; entries = a.entries ++ extends.more } =
    ap (λ es. record { epoch = b.epoch; opened = b.opened; entries = es }) extends.entries in
    let there : HasReply b.entries key reply = subst (λ (es : List Entry). HasReply es key reply)
    (sym extends.entries) (reply_on a.entries extends.more b.epoch b.opened key reply
    (subst Legal whole after) has) in
    (there, λ other also. one_reply b key reply other after there also)
