-- Who waits at an open place of a state is who waits there in the account.
use Rattle.rv_account.proofs.OfState.Words.{◌≡◌, ◌∙◌, ℕ, List, Option, Some, None, option_and_then, refl}
use Rattle.rv_account.proofs.OfState.Words.{sym, ap}
use Rattle.rv_account.proofs.OfState.Words.{subst, none-some, same_Some, Key, Call, Wait, wait_of, Arrive}
use Rattle.rv_account.proofs.OfState.Words.{Entry}
use Rattle.rv_account.proofs.OfState.Words.{act_at, call_in, key_in, Open, OpenPlace, Waiter, waiter_of}
use Rattle.rv_account.proofs.OfState.Words.{IsArrival}
use Rattle.rv_account.proofs.OfState.Words.{WaitsThere}

-- ---- one arrival at a place

-- two arrivals at a place are one
pub same_key_at : (es : List Entry) (r : ℕ) (key other : Key) (call called : Call)
    → act_at es r ≡ Some (Arrive key call) → act_at es r ≡ Some (Arrive other called) → key ≡ other
same_key_at es r key other call called first second =
    same_Some _ _ (sym (ap (option_and_then key_in) first) ∙ ap (option_and_then key_in) second)

pub same_call_at : (es : List Entry) (r : ℕ) (key other : Key) (call called : Call)
    → act_at es r ≡ Some (Arrive key call) → act_at es r ≡ Some (Arrive other called) → call ≡ called
same_call_at es r key other call called first second =
    same_Some _ _ (sym (ap (option_and_then call_in) first) ∙ ap (option_and_then call_in) second)

-- ---- from the state

waiter_is : (key : Key) (moment : ℕ) (wait : Option Wait) (w : Waiter) → waiter_of key moment wait ≡ Some w
    → (it : Wait) × (wait ≡ Some it) × (key ≡ w.key)
waiter_is key moment None w is = absurd (none-some w is)
waiter_is key moment (Some it) w is = (it, refl, ap (λ (x : Waiter). x.key) (same_Some _ _ is))

-- an open request with a wait waits
pub open_waits : (es : List Entry) (key : Key) (r : ℕ) (call : Call) (wait : Wait) → Open es r
    → act_at es r ≡ Some (Arrive key call) → wait_of call ≡ Some wait → WaitsThere es key r call
open_waits es key r call wait opened arrived waits =
    let same : opened.call ≡ call =
    same_Some _ _ (sym opened.arrived ∙ ap (option_and_then call_in) arrived) in
    record {
      arrived = arrived;
      waits = record {
        is_open = opened;
        no_put = λ put. none-some wait (sym put.1 ∙ ap wait_of same ∙ waits);
      };
    }

pub waiter_waits : (es : List Entry) (there : OpenPlace) (w : Waiter) (arrival : IsArrival es there)
    → Open es there.place → there.waiter ≡ Some w → WaitsThere es w.key there.place arrival.call
waiter_waits es there w arrival opened waits =
    let is = waiter_is arrival.key arrival.moment (wait_of arrival.call) w (sym arrival.waiter ∙ waits) in
    open_waits es w.key there.place arrival.call is.0 opened
    (subst (λ (k : Key). act_at es there.place ≡ Some (Arrive k arrival.call)) is.2 arrival.arrived) is.1

-- ---- from the account

-- a request that waits has a wait
has_wait : (call : Call) (wait : Option Wait) → wait_of call ≡ wait → ((wait_of call ≡ None) → ⊥)
    → (it : Wait) × (wait_of call ≡ Some it)
has_wait call None is waits = absurd (waits is)
has_wait call (Some it) is waits = (it, is)

pub waits_by : (es : List Entry) (key : Key) (r : ℕ) (call : Call) → WaitsThere es key r call
    → (it : Wait) × (wait_of call ≡ Some it)
waits_by es key r call w =
    let opened = w.waits.is_open in
    let same : opened.call ≡ call =
    same_Some _ _ (sym opened.arrived ∙ ap (option_and_then call_in) w.arrived) in
    has_wait call (wait_of call) refl
    (λ none. w.waits.no_put (opened.stays.0, ap wait_of same ∙ none))

pub waits_at_waiter : (es : List Entry) (there : OpenPlace) (key : Key) (call : Call)
    (arrival : IsArrival es there) → WaitsThere es key there.place call
    → (w : Waiter) × (there.waiter ≡ Some w) × (w.key ≡ key)
waits_at_waiter es there key call arrival w =
    let own : arrival.key ≡ key =
    same_key_at es there.place arrival.key key arrival.call call arrival.arrived w.arrived in
    let same : arrival.call ≡ call =
    same_call_at es there.place arrival.key key arrival.call call arrival.arrived w.arrived in
    let wait = waits_by es key there.place call w in
    let waiter : Waiter = record { key = arrival.key; since = arrival.moment } in (
      waiter,
      arrival.waiter ∙ ap (waiter_of arrival.key arrival.moment) (ap wait_of same ∙ wait.1),
      own,
    )
