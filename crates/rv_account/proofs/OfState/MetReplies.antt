-- What a request that meets another is told: its receipt or the other's item; and that it is told something.
use Rattle.rv_account.proofs.OfState.Words.{◌≡◌, ◌∙◌, inl, inr, ℕ, List, Option, Some, None, option_and_then}
use Rattle.rv_account.proofs.OfState.Words.{option_map, refl, sym, ap, none-some, same_Some, Version, Key}
use Rattle.rv_account.proofs.OfState.Words.{Call, Wait}
use Rattle.rv_account.proofs.OfState.Words.{Reply, Gives, drains_of, item_of, side_of, wait_of, Entry}
use Rattle.rv_account.proofs.OfState.Words.{opposite}
use Rattle.rv_account.proofs.OfState.Words.{GetsItem, MeetsKey, RepliesAt, RepliesMet, AskedIn, Met}
use Rattle.rv_account.proofs.OfState.Words.{gives_item}
use Rattle.rv_account.proofs.OfState.Words.{ClientState, State, client_at, told_met, session_version}
use Rattle.rv_text.specs.declared.version.Version.TheVariants.{One, Two}
use Rattle.rv_account.proofs.OfRules.CallKinds.{exchanges_item}
use Rattle.rv_account.proofs.OfRules.Versions.{one_version}
use Rattle.rv_account.specs.state.After.{receipt_of}
use Rattle.rv_account.proofs.OfState.Filtered.{chained_there, mapped_there}
use Rattle.rv_text.specs.declared.call.Call.TheVariants as call
use Rattle.rv_text.specs.declared.answer.Reply.TheVariants as reply

-- ---- it is the reply

pub one_apart : One ≡ Two → ⊥
one_apart e = cc

receipt_met : (version : Version) (taker : Option Key) (told : Reply) (es : List Entry) (r : ℕ)
    → receipt_of version taker ≡ Some told → AskedIn es r version
    → ((key : Key) → taker ≡ Some key → MeetsKey es r key) → RepliesMet es r told
receipt_met One taker told es r is asked meets =
    inr ((λ two. one_apart (one_version es r One Two asked two)), sym (same_Some _ _ is))
receipt_met Two taker told es r is asked meets =
    let by = mapped_there (λ (key : Key). reply.ReceivedBy key) taker told is in
    inl (asked, by.0, meets by.0 by.1, sym by.2)

module _ (es : List Entry) (r : ℕ) (s : State) (key : Key) (other : Option Key) (gets : Option (List ℕ))
    (told : Reply) (met : Met es r)
    (asked : (version : Version) → session_version s key ≡ Some version → AskedIn es r version)
    (meets : (taker : Key) → other ≡ Some taker → MeetsKey es r taker)
    (given : (item : List ℕ) → gets ≡ Some item → GetsItem es r item) where
  pub met_replies : (its : Call) → told_met s key its other gets ≡ Some told → RepliesAt es r its told
  met_replies (call.Put queue item) is = absurd (none-some told is)
  met_replies (call.Transfer queue item wait) is =
      let by = chained_there (λ version. receipt_of version other) (session_version s key) told is in
      inl (met, receipt_met by.0 other told es r by.2 (asked by.0 by.1) meets)
  met_replies (call.Take queue wait) is =
      let by = mapped_there reply.Item gets told is in
      inl (by.0, given by.0 by.1, sym by.2)
  met_replies (call.Swap exchanger item wait) is =
      let by = mapped_there reply.Swapped gets told is in
      inl (by.0, given by.0 by.1, sym by.2)
  met_replies (call.Count queue) is = absurd (none-some told is)
  met_replies (call.Peek queue) is = absurd (none-some told is)
  met_replies (call.Drain queue max) is = absurd (none-some told is)

-- ---- there is one

receipt_there : (version : Version) (taker : Option Key) (key : Key) → taker ≡ Some key
    → (told : Reply) × (receipt_of version taker ≡ Some told)
receipt_there One taker key is = (reply.Received, refl)
receipt_there Two taker key is = (reply.ReceivedBy key, ap (option_map reply.ReceivedBy) is)

-- of a call that waits, and is no drain
module _ (s : State) (key : Key) (giver : Call) (wait : Wait) (other : Option Key) (gets : Option (List ℕ))
    (session : ClientState) (there : client_at s key.client ≡ Some session) (hands : gets ≡ item_of giver)
  where
    pub met_told : (its : Call) → wait_of its ≡ Some wait → drains_of its ≡ None
        → opposite (side_of its) ≡ Some (side_of giver)
        → ((queue : ℕ) → side_of its ≡ Gives queue → (taker : Key) × (other ≡ Some taker))
        → (told : Reply) × (told_met s key its other gets ≡ Some told)
    met_told (call.Put queue item) waits drains opposes taken = absurd (none-some wait waits)
    met_told (call.Transfer queue item it) waits drains opposes taken =
        let taker = taken queue refl in
        let receipt = receipt_there session.version other taker.0 taker.1 in
        let tells = option_and_then (λ (version : Version). receipt_of version other) in
        let version = option_map (λ (c : ClientState). c.version) in
        (receipt.0, ap (λ o. tells (version o)) there ∙ receipt.1)
    met_told (call.Take queue it) waits drains opposes taken =
        let gives = gives_item giver queue (sym (same_Some _ _ opposes)) in
        (reply.Item gives.0, ap (option_map reply.Item) (hands ∙ gives.1))
    met_told (call.Swap exchanger item it) waits drains opposes taken =
        let gives = exchanges_item giver exchanger (sym (same_Some _ _ opposes)) in
        (reply.Swapped gives.0, ap (option_map reply.Swapped) (hands ∙ gives.1))
    met_told (call.Count queue) waits drains opposes taken = absurd (none-some wait waits)
    met_told (call.Peek queue) waits drains opposes taken = absurd (none-some wait waits)
    met_told (call.Drain queue max) waits drains opposes taken = absurd (none-some max (sym drains))
