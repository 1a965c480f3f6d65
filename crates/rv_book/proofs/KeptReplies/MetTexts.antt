-- Where the text of a reply by its wait, or of one to a request that meets another, stands.
use Rattle.rv_account.proofs.OfState.Words.{◌≡◌, ℕ, zero, suc, List, Option, Some}
use Rattle.rv_account.proofs.OfState.Words.{subst, none-some, same_Some, Version, Key, Call, Wait, Now}
use Rattle.rv_account.proofs.OfState.Words.{Millis, Forever}
use Rattle.rv_account.proofs.OfState.Words.{Reply, State, told_met, session_version}
use Rattle.rv_account.specs.declared.entry.Entry.{Entry}
use Rattle.rv_text.specs.declared.version.Version.TheVariants.{One, Two}
use Rattle.rv_text.specs.declared.call.Call.TheVariants as call
use Rattle.rv_text.specs.declared.answer.Reply.TheVariants as reply
use Rattle.rv_account.specs.Account.{item_at, key_at}
use Rattle.rv_account.specs.state.After.{receipt_of, told_unmet}
use Rattle.rv_account.proofs.OfState.Filtered.{chained_there, mapped_there}
use Rattle.rv_book.proofs.KeptReplies.TextsAt.{HasTextAt}

-- a reply by its wait is that at once, or that the time is over
pub unmet_text : (es : List Entry) (place : ℕ) (wait : Wait) (at_once told : Reply)
    → told_unmet wait at_once ≡ Some told → HasTextAt es place at_once → HasTextAt es place told
unmet_text es place Now at_once told is has = subst (HasTextAt es place) (same_Some _ _ is) has
unmet_text es place (Millis zero) at_once told is has = subst (HasTextAt es place) (same_Some _ _ is) tt
unmet_text es place (Millis (suc n)) at_once told is has = absurd (none-some told is)
unmet_text es place Forever at_once told is has = absurd (none-some told is)

module _ (es : List Entry) (place : ℕ) (other : Option Key) (gets : Option (List ℕ)) (told : Reply)
    (taker_is : (key : Key) → other ≡ Some key → key_at es place ≡ Some key)
    (item_is : (item : List ℕ) → gets ≡ Some item → item_at es place ≡ Some item) where
  receipt_text : (version : Version) → receipt_of version other ≡ Some told → HasTextAt es place told
  receipt_text One is = subst (HasTextAt es place) (same_Some _ _ is) tt
  receipt_text Two is =
      let by = mapped_there (λ (key : Key). reply.ReceivedBy key) other told is in
      subst (HasTextAt es place) by.2 (taker_is by.0 by.1)

  -- who meets one whose key and item stand at the place is told what stands there
  pub met_text : (s : State) (key : Key) (its : Call) → told_met s key its other gets ≡ Some told
      → HasTextAt es place told
  met_text s key (call.Put queue item) is = absurd (none-some told is)
  met_text s key (call.Transfer queue item wait) is =
      let by = chained_there (λ version. receipt_of version other) (session_version s key) told is in
      receipt_text by.0 by.2
  met_text s key (call.Take queue wait) is =
      let by = mapped_there reply.Item gets told is in
      subst (HasTextAt es place) by.2 (item_is by.0 by.1)
  met_text s key (call.Swap exchanger item wait) is =
      let by = mapped_there reply.Swapped gets told is in
      subst (HasTextAt es place) by.2 (item_is by.0 by.1)
  met_text s key (call.Count queue) is = absurd (none-some told is)
  met_text s key (call.Peek queue) is = absurd (none-some told is)
  met_text s key (call.Drain queue max) is = absurd (none-some told is)
