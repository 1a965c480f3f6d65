-- What an entry settles has the replies that the state says, and so has its own request.
use Rattle.rv_account.proofs.OfState.Words.{◌≡◌, ◌∷◌, ◌∙◌, [], ℕ, Some, None, length, refl, sym, ap, subst}
use Rattle.rv_account.proofs.OfState.Words.{slice_get}
use Rattle.rv_account.proofs.OfState.Words.{Key, Call, Reply, Entry, Arrive, Account, act_at, RepliesAt}
use Rattle.rv_account.proofs.OfState.Words.{Open, Waiting}
use Rattle.rv_account.proofs.OfState.Words.{act_read, reads_on, arrives_once, OpenPlace, State, Settled}
use Rattle.rv_account.proofs.OfState.Words.{following}
use Rattle.rv_account.proofs.OfState.Words.{WaitsThere}
use Rattle.rv_account.proofs.OfState.ClosedPlaces.{closed_not_open, closed_now, closes_open}
use Rattle.rv_account.proofs.OfState.Coming.{Comes, more}
use Rattle.rv_account.proofs.OfState.OwnReplies.{own_told, own_waiting}
use Rattle.rv_account.proofs.OfState.Settling.{settled_there, tells_replies, was_settled}
use Rattle.rv_account.proofs.OfState.WaitQueuesThere.{open_waits, waits_at_waiter, waits_by}

-- who is settled waited, and has the reply that it is told
pub record IsSettledBy (a : Account) (e : Entry) (settled : Settled) : Type 0 where
  pub place : ℕ
  pub call : Call
  pub waited : WaitsThere a.entries settled.key place call
  pub replies : RepliesAt (more a e) place call settled.reply

pub settled_replies : (a : Account) (s : State) (e : Entry) → Comes a s e → (i : ℕ) (settled : Settled)
    → slice_get (following s e.moment e.act).settles i ≡ Some settled → IsSettledBy a e settled
settled_replies a s e comes i settled is =
    let by = was_settled a s e comes i settled is in
    record {
      place = by.there.place;
      call = by.call;
      waited = by.waited;
      replies = tells_replies a s e comes by.j by.there by.at settled.key by.call by.waited e.act refl
          settled.reply by.is;
    }

-- who waited and waits no more is settled
pub record Among (a : Account) (s : State) (e : Entry) (key : Key) : Type 0 where
  pub i : ℕ
  pub settled : Settled
  pub there : slice_get (following s e.moment e.act).settles i ≡ Some settled
  pub key_is : settled.key ≡ key

pub all_settled : (a : Account) (s : State) (e : Entry) → Comes a s e → (r : ℕ) (key : Key) (call : Call)
    → WaitsThere a.entries key r call → ¬ Waiting (more a e) r → Among a s e key
all_settled a s e comes r key call waited ended =
    let wait = waits_by a.entries key r call waited in
    let closed = λ (opened : Open (more a e) r).
    let arrived = reads_on act_read refl a.entries (e ∷ []) r (Arrive key call) waited.arrived in
    ended (open_waits (more a e) key r call wait.0 opened arrived wait.1).waits in
    let found = closed_now a s e comes r waited.waits.is_open closed in
    let there : OpenPlace = found.1 in
    let here = subst (λ place. WaitsThere a.entries key place call) (sym found.3) waited in
    let stands = closes_open s e.moment e.act found.0 there found.2 in
    let arrival = comes.state.arrivals stands.0 there stands.1 in
    let waiter = waits_at_waiter a.entries there key call arrival here in
    let by = settled_there a s e comes found.0 there found.2 key call here waiter.0 waiter.1 waiter.2 in
    record { i = by.0; settled = by.1; there = by.2; key_is = by.3 }

-- and who is settled waits no more
pub settled_waits_not : (a : Account) (s : State) (e : Entry) → Comes a s e → (r : ℕ) (key : Key)
    (call : Call) → WaitsThere a.entries key r call → Among a s e key → ¬ Waiting (more a e) r
settled_waits_not a s e comes r key call waited among waits =
    let by = was_settled a s e comes among.i among.settled among.there in
    let place : ℕ = by.there.place in
    let arrived : act_at a.entries place ≡ Some (Arrive key by.call) =
    subst (λ (k : Key). act_at a.entries place ≡ Some (Arrive k by.call)) among.key_is by.waited.arrived in
    let same : r ≡ place = arrives_once a r place key call by.call comes.legal waited.arrived arrived in
    closed_not_open a s e comes by.j by.there by.at by.waited.waits.is_open
    (subst (Open (more a e)) same waits.is_open)

-- the reply of the entry's own request, where it has one, and that it waits where it has none
pub own_replies : (a : Account) (s : State) (e : Entry) (key : Key) (call : Call) (reply : Reply)
    → Comes a s e → e.act ≡ Arrive key call → (following s e.moment e.act).reply ≡ Some reply
    → RepliesAt (more a e) (length a.entries) call reply
own_replies a s e key call reply comes arrives is =
    let told : (following s e.moment (Arrive key call)).reply ≡ Some reply =
    ap (λ act. (following s e.moment act).reply) (sym arrives) ∙ is in
    own_told a s e key call comes arrives reply told

pub own_waits : (a : Account) (s : State) (e : Entry) (key : Key) (call : Call) → Comes a s e
    → e.act ≡ Arrive key call → (following s e.moment e.act).reply ≡ None
    → Waiting (more a e) (length a.entries)
own_waits a s e key call comes arrives is =
    let told : (following s e.moment (Arrive key call)).reply ≡ None =
    ap (λ act. (following s e.moment act).reply) (sym arrives) ∙ is in
    own_waiting a s e key call comes arrives told
