-- What became of a request, with one more entry: a reply stays, and who is settled has the reply it is told.
use Rattle.rv_account.proofs.OfState.Words.{◌≡◌, ◌<◌, ◌∷◌, ◌∙◌, inl, inr, ℕ, List, [], length, Some}
use Rattle.rv_account.proofs.OfState.Words.{option_and_then}
use Rattle.rv_account.proofs.OfState.Words.{refl, sym, ap, subst, arith, slice_get, cases_lt, Key, Call}
use Rattle.rv_account.proofs.OfState.Words.{Reply, Arrive}
use Rattle.rv_account.proofs.OfState.Words.{Cancel, Entry, Account, act_at, call_in, key_in, with_entry}
use Rattle.rv_account.proofs.OfState.Words.{Legal}
use Rattle.rv_account.proofs.OfState.Words.{CancelledFirst, RepliesAt, act_read, reads_on, reads_within}
use Rattle.rv_account.proofs.OfState.Words.{Legal-with_entry, LastRequest, State, CancelledUnseen, Fresh}
use Rattle.rv_account.proofs.OfState.Words.{RepliedTo}
use Rattle.rv_account.proofs.OfState.Words.{Waits, Settled, following, BecameOf, WaitsThere}
use Rattle.rv_account.specs.rules.Sessions.{NamesKey}
use Rattle.rv_account.proofs.OfRules.Deciding.{waits_or_not}
use Rattle.rv_account.proofs.OfRules.OnePartner.{arrives_first}
use Rattle.rv_account.proofs.OfRules.Places.{get-append_within}
use Rattle.rv_account.proofs.OfRules.Waits.{one_waits}
use Rattle.rv_account.specs.state.Agreement.{HasReplied}
use Rattle.rv_account.proofs.OfState.Coming.{Comes, more}
use Rattle.rv_account.proofs.OfState.StayingReplies.{reply_stays}
use Rattle.rv_account.proofs.OfState.Telling.{IsSettledBy, all_settled, settled_replies}
use Rattle.rv_account.proofs.OfState.ToldClients.{IsToldBy, IsUntold, told_or_waits, told_request, told_still}

pub replied_on : (a : Account) (e : Entry) (key : Key) (call : Call) (reply : Reply) → Legal (with_entry a e)
    → HasReplied a.entries key call reply → HasReplied (more a e) key call reply
replied_on a e key call reply legal has =
    let it = has.replies in
    record {
      replies = record {
        place = it.place;
        call = it.call;
        arrived = reads_on act_read refl a.entries (e ∷ []) it.place (Arrive key it.call) it.arrived;
        replies = reply_stays it.call a.entries (e ∷ []) a.epoch a.opened it.place reply legal
            (ap (option_and_then call_in) it.arrived) it.replies;
      };
      with_call = has.with_call;
    }

-- a request that was cancelled first does not come
pub cancelled_on : (a : Account) (e : Entry) (key : Key) → Legal (with_entry a e)
    → CancelledFirst a.entries key → CancelledFirst (more a e) key
cancelled_on a e key legal first =
    let es : List Entry = a.entries in
    let there = reads_on act_read refl es (e ∷ []) first.place (Cancel key) first.cancelled in
    let inside : first.place < length es =
    reads_within act_read refl es first.place (Cancel key) first.cancelled in
    record {
      place = first.place;
      cancelled = there;
      not_arrived = λ r call arrived. elim (cases_lt r (length es)) [
        | inl before ↦
            first.not_arrived r call (ap act_read (sym (get-append_within es (e ∷ []) r before)) ∙ arrived)
        | inr behind ↦
            arrives_first (with_entry a e) first.place r key call legal (ap (option_and_then key_in) there)
            arrived (omega arith)
      ];
    }

same_call : (k l : Key) (c d : Call) → Some (Arrive k c) ≡ Some (Arrive l d) → c ≡ d
same_call k l c d e = cc

module _ (a : Account) (s : State) (e : Entry) (comes : Comes a s e) (settles : List Settled)
    (made : (following s e.moment e.act).settles ≡ settles) (key : Key) where
  -- a request that waited and is told has that reply
  told_replies : (place : ℕ) (call : Call) → WaitsThere a.entries key place call
      → (told : IsToldBy settles key.client place call) → HasReplied (more a e) key call told.settled.reply
  told_replies place call waited told =
      let there = ap (λ xs. slice_get xs told.i) made ∙ told.there in
      let by : IsSettledBy a e told.settled = settled_replies a s e comes told.i told.settled there in
      let own : NamesKey a.entries key.client place key = record {
        named = ap (option_and_then key_in) waited.arrived;
        of_client = refl;
      } in
      let others : NamesKey a.entries key.client by.place told.settled.key = record {
        named = ap (option_and_then key_in) by.waited.arrived;
        of_client = told.of_client;
      } in
      let at : by.place ≡ place =
      one_waits a key.client by.place place told.settled.key key comes.legal by.waited.waits waited.waits
      others own in
      let call_is : by.call ≡ call =
      same_call told.settled.key key by.call call
      (sym by.waited.arrived ∙ ap (act_at a.entries) at ∙ waited.arrived) in
      let replies : RepliesAt (more a e) place call told.settled.reply =
      subst (λ p. RepliesAt (more a e) p call told.settled.reply) at
      (subst (λ c. RepliesAt (more a e) by.place c told.settled.reply) call_is by.replies) in
      record {
        replies = record {
          place = place;
          call = call;
          arrived = reads_on act_read refl a.entries (e ∷ []) place (Arrive key call) waited.arrived;
          replies = replies;
        };
        with_call = refl;
      }

  -- and one that isn't goes on waiting
  untold_waits : (place : ℕ) (call : Call) → WaitsThere a.entries key place call
      → IsUntold settles key.client place call → WaitsThere (more a e) key place call
  untold_waits place call waited untold = elim (waits_or_not (more a e) place) [
    | inl waits ↦
        record {
          arrived = reads_on act_read refl a.entries (e ∷ []) place (Arrive key call) waited.arrived;
          waits = waits;
        }
    | inr ended ↦
        let among = all_settled a s e comes place key call waited ended in
        let there = ap (λ xs. slice_get xs among.i) (sym made) ∙ among.there in
        absurd (untold.none among.i among.settled there (ap (λ (k : Key). k.client) among.key_is))
  ]

  pub became_on : (request : LastRequest) → BecameOf a.entries key request
      → BecameOf (more a e) key (told_request settles key.client request)
  became_on Fresh became =
      subst (BecameOf (more a e) key) (sym (told_still Fresh (λ reply. refl) settles key.client)) became
  became_on (Waits place call) became = elim (told_or_waits settles key.client place call) [
    | inl untold ↦
        subst (BecameOf (more a e) key) (sym untold.is) (untold_waits place call became untold)
    | inr told ↦ subst (BecameOf (more a e) key) (sym told.is) (told_replies place call became told)
  ]
  became_on (RepliedTo call reply) became =
      let legal = Legal-with_entry a e comes.legal comes.follows in
      subst (BecameOf (more a e) key) (sym (told_still (RepliedTo call reply) (λ r. refl) settles key.client))
      (replied_on a e key call reply legal became)
  became_on CancelledUnseen became =
      let legal = Legal-with_entry a e comes.legal comes.follows in
      subst (BecameOf (more a e) key) (sym (told_still CancelledUnseen (λ r. refl) settles key.client))
      (cancelled_on a e key legal became)
