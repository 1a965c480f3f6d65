-- What the own entry of a request or a cancel is answered, by the account and by the state.
use Rattle.rv_account.proofs.OfState.Words.{◌≡◌, ◌∷◌, ◌++◌, ◌∙◌, inl, inr, ℕ, [], length, Option, Some, None}
use Rattle.rv_account.proofs.OfState.Words.{option_and_then, refl, sym, ap, Replied, Reply, Cancelled, Call}
use Rattle.rv_account.proofs.OfState.Words.{Key}
use Rattle.rv_account.proofs.OfState.Words.{Arrive, Cancel, Entry, Account, key_in, with_entry}
use Rattle.rv_account.proofs.OfState.Words.{IsNextNumber, Legal}
use Rattle.rv_account.proofs.OfState.Words.{CancelledFirst, HasIncarnation, Answers, act_read, reads_back}
use Rattle.rv_account.proofs.OfState.Words.{get-append_end, OpenPlace, State, client_waits, cancelled}
use Rattle.rv_account.proofs.OfState.Words.{following}
use Rattle.rv_account.specs.rules.Steps.{Replies}
use Rattle.rv_account.proofs.OfRules.OnePartner.{named_not_next}
use Rattle.rv_account.specs.state.Moves.{answer_after, answer_told}
use Rattle.rv_account.proofs.OfState.Coming.{Comes}
use Rattle.rv_account.proofs.OfState.Telling.{own_replies, own_waits}

-- ---- requests

own_told : (a : Account) (s : State) (e : Entry) (key : Key) (call : Call) (o : Option Reply) → Comes a s e
    → e.act ≡ Arrive key call → (following s e.moment e.act).reply ≡ o
    → Answers (with_entry a e) key (answer_told key o)
own_told a s e key call None comes is none = inr (
  record {
    place = length a.entries;
    call = call;
    arrived = ap act_read (get-append_end a.entries e) ∙ ap Some is;
    waits = own_waits a s e key call comes is none;
  },
  refl,
)
own_told a s e key call (Some told) comes is some = inl (record {
  reply = told;
  has = inl (record {
    place = length a.entries;
    call = call;
    arrived = ap act_read (get-append_end a.entries e) ∙ ap Some is;
    replies = own_replies a s e key call told comes is some;
  });
  is = refl;
})

-- a request whose entry comes is answered what the state says
pub own_answers : (a : Account) (s : State) (e : Entry) (key : Key) (call : Call) → Comes a s e
    → e.act ≡ Arrive key call
    → Answers (with_entry a e) key (answer_told key (following s e.moment e.act).reply)
own_answers a s e key call comes is = own_told a s e key call (following s e.moment e.act).reply comes is refl

-- ---- cancels

-- a request that is cancelled before it came
pub cancelled_first : (a : Account) (e : Entry) (key : Key) → Legal a
    → HasIncarnation a.entries key.client key.incarnation → IsNextNumber a.entries key → e.act ≡ Cancel key
    → CancelledFirst (a.entries ++ e ∷ []) key
cancelled_first a e key legal has next says = record {
  place = length a.entries;
  cancelled = ap act_read (get-append_end a.entries e) ∙ ap Some says;
  not_arrived = λ r call arrived. elim (reads_back act_read refl a.entries e r (Arrive key call) arrived) [
    | inl before ↦ named_not_next a r key legal (ap (option_and_then key_in) before.1) has next
    | inr last ↦ not_both key call (sym (ap Some says) ∙ last.1)
  ];
}
  where
    not_both : (key : Key) (call : Call) → Some (Cancel key) ≡ Some (Arrive key call) → ⊥
    not_both key call e = cc

pub first_replies : (a : Account) (e : Entry) (key : Key) → Legal a
    → HasIncarnation a.entries key.client key.incarnation → IsNextNumber a.entries key → e.act ≡ Cancel key
    → Replies (with_entry a e) key (Replied key Cancelled)
first_replies a e key legal has next says =
    record { reply = Cancelled; has = inr (cancelled_first a e key legal has next says, refl); is = refl }

pub cancel_by : (s : State) (key : Key) (o : Option OpenPlace) → (cancelled s key o).reply ≡ Some Cancelled
cancel_by s key None = refl
cancel_by s key (Some there) = refl

-- a cancel is answered that, by the state
pub cancel_answer : (s : State) (moment : ℕ) (key : Key)
    → answer_after s moment key (Cancel key) ≡ Replied key Cancelled
cancel_answer s moment key = ap (answer_told key) (cancel_by s key (client_waits s key.client))
