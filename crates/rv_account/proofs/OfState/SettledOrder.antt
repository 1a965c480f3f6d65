-- Whom an entry settles stands in order: at a tick by limit and then place, at any other act by place.
use Rattle.rv_account.proofs.OfState.Words.{◌≡◌, ◌<◌, ◌∷◌, ◌∙◌, inl, inr, ℕ, zero, suc, List, [], Option}
use Rattle.rv_account.proofs.OfState.Words.{Some, None}
use Rattle.rv_account.proofs.OfState.Words.{refl, sym, ap, subst, arith, option_and_then, option_map}
use Rattle.rv_account.proofs.OfState.Words.{nat_eq, slice_get}
use Rattle.rv_account.proofs.OfState.Words.{keys, eqb-true, none-some, same_Some, Key, Call, Side, Wait}
use Rattle.rv_account.proofs.OfState.Words.{Reply, side_of}
use Rattle.rv_account.proofs.OfState.Words.{wait_of, Act, Hello, Arrive, Cancel, Tick, Entry, Account}
use Rattle.rv_account.proofs.OfState.Words.{act_at, limit_at}
use Rattle.rv_account.proofs.OfState.Words.{may_name, opposite, Legal, arrives_once, OpenPlace, State, Waiter}
use Rattle.rv_account.proofs.OfState.Words.{client_waits, line_of, open_at, same_side, Settled, due_at}
use Rattle.rv_account.proofs.OfState.Words.{following}
use Rattle.rv_account.proofs.OfState.Words.{just_open, waiter_of, IsArrival, IsStateOf, WaitsThere}
use Rattle.std.specs.Prelude.{Bool, true, false, ◌&&◌, filter, map, nat_lt, not}
use Rattle.std.specs.FinMap.{entries, entries_sorted}
use Rattle.std.specs.FinMap.Entries.{below_all, is_sorted}
use Rattle.std.specs.Ordering.{is_lt}
use Rattle.std.specs.declared.cmp.Ordering.{Ordering}
use Rattle.std.specs.declared.cmp.Ordering.TheVariants.{Less, Equal, Greater}
use Rattle.std.proofs.Math.Dec.{T}
use Rattle.rv_due.proofs.Order.{precedes}
use Rattle.rv_due.specs.Deadlines.{Deadline, Precedes, by_moment}
use Rattle.rv_account.specs.state.State.{opposites}
use Rattle.rv_account.specs.state.After.{limits_of, settled_at}
use Rattle.rv_account.specs.state.Settling.{HasSoonerLimit, SettlesBefore}
use Rattle.rv_account.proofs.OfState.Coming.{Comes}
use Rattle.rv_account.proofs.OfState.DueAt.{listed_deadline}
use Rattle.rv_account.proofs.OfState.Filtered.{InOrder, filter_order, find_get, get_map}
use Rattle.rv_account.proofs.OfState.GivenOrder.{GivesBoth, filter_map_order, take_order}
use Rattle.rv_account.proofs.OfState.GoneBy.{gone_by}
use Rattle.rv_account.proofs.OfState.Settling.{settles_are, tells}

-- ---- whose place it is

settled_there : (told : Key → Option Reply) (waiter : Option Waiter) (settled : Settled)
    → option_and_then (λ w. option_map (λ r. record { key = w.key; reply = r }) (told w.key)) waiter
    ≡ Some settled
    → (w : Waiter) × (waiter ≡ Some w) × (w.key ≡ settled.key)
settled_there told None settled is = absurd (none-some settled is)
settled_there told (Some w) settled is = by_reply (told w.key) is
  where
    by_reply : (reply : Option Reply) → option_map (λ r. record { key = w.key; reply = r }) reply ≡ Some
        settled
        → (x : Waiter) × (Some w ≡ Some x) × (x.key ≡ settled.key)
    by_reply None is = absurd (none-some settled is)
    by_reply (Some r) is = (w, refl, ap (λ (x : Settled). x.key) (same_Some _ _ is))

waiter_key : (key : Key) (moment : ℕ) (wait : Option Wait) (w : Waiter) → waiter_of key moment wait ≡ Some w
    → w.key ≡ key
waiter_key key moment None w is = absurd (none-some w is)
waiter_key key moment (Some wait) w is = sym (ap (λ (x : Waiter). x.key) (same_Some _ _ is))

-- and waits nowhere else
waits_here : (a : Account) (there : OpenPlace) (settled : Settled) (told : OpenPlace → Key → Option Reply)
    (p : ℕ) (call : Call) → Legal a → IsArrival a.entries there → settled_at told there ≡ Some settled
    → WaitsThere a.entries settled.key p call → there.place ≡ p
waits_here a there settled told p call legal arrival is waits =
    let found = settled_there (told there) there.waiter settled is in
    let known = waiter_key arrival.key arrival.moment (wait_of arrival.call) found.0
    (sym arrival.waiter ∙ found.1) in
    let own : arrival.key ≡ settled.key = sym known ∙ found.2 in
    let arrived = subst (λ k. act_at a.entries there.place ≡ Some (Arrive k arrival.call)) own arrival.arrived
    in
    arrives_once a there.place p settled.key arrival.call call legal arrived waits.arrived

-- ---- the keys of a map rise

both_true : (b c : Bool) → T (b && c) → T b × T c
both_true true c holds = (tt, holds)
both_true false c holds = absurd holds

less_by : (o : Ordering) → T (is_lt o) → o ≡ Less
less_by Less is = refl
less_by Equal is = absurd is
less_by Greater is = absurd is

below : (d : Deadline) (es : List (Deadline × Unit {0})) → T (below_all by_moment d es) → (i : ℕ)
    (x : Deadline) → slice_get (map (λ e. e.0) es) i ≡ Some x → by_moment d x ≡ Less
below d [] all i x at = absurd (none-some x at)
below d (e ∷ es) all zero x at =
    subst (λ y. by_moment d y ≡ Less) (same_Some _ _ at) (less_by (by_moment d e.0) (both_true _ _ all).0)
below d (e ∷ es) all (suc i) x at = below d es (both_true _ _ all).1 i x at

rise : (es : List (Deadline × Unit {0})) → T (is_sorted by_moment es) → (x y : Deadline)
    → InOrder (map (λ e. e.0) es) x y → by_moment x y ≡ Less
rise [] sorted x y order = absurd (none-some x order.3)
rise (e ∷ es) sorted x y (i, zero, less, first, second) = absurd (omega arith)
rise (e ∷ es) sorted x y (zero, suc j, less, first, second) =
    subst (λ z. by_moment z y ≡ Less) (same_Some _ _ first) (below e.0 es (both_true _ _ sorted).0 j y second)
rise (e ∷ es) sorted x y (suc i, suc j, less, first, second) =
    rise es (both_true _ _ sorted).1 x y (i, j, omega arith, first, second)

sooner_key : (s : State) (x y : Deadline) → InOrder (keys (limits_of s)) x y → Precedes x y
sooner_key s x y order =
    precedes x y (rise (entries (limits_of s)) (entries_sorted (limits_of s)) x y order)

-- ---- the order of what is closed

one_at_most : (o : Option OpenPlace) (x y : OpenPlace) → InOrder (just_open o) x y → ⊥
one_at_most None x y order = none-some x order.3
one_at_most (Some there) x y (i, zero, less, first, second) = omega arith
one_at_most (Some there) x y (i, suc j, less, first, second) = none-some y second

places_rise : (a : Account) (s : State) → IsStateOf a s → (x y : OpenPlace) → InOrder s.open_places x y
    → x.place < y.place
places_rise a s state x y order =
    state.in_order.rising order.0 order.1 x.place y.place order.2
    (get_map (λ (o : OpenPlace). o.place) s.open_places order.0 x order.3)
    (get_map (λ (o : OpenPlace). o.place) s.open_places order.1 y order.4)

line_rises : (a : Account) (s : State) → IsStateOf a s → (side : Option Side) (x y : OpenPlace)
    → InOrder (line_of s side) x y → x.place < y.place
line_rises a s state None x y order = absurd (none-some x order.3)
line_rises a s state (Some side) x y order =
    places_rise a s state x y
    (filter_order (λ (o : OpenPlace). same_side o.side side) s.open_places x y order.0 order.1 order.2 order.3
    order.4)

-- the limit at an open place that a deadline found
limit_found : (a : Account) (s : State) (j : ℕ) (d : Deadline) (x : OpenPlace) → IsStateOf a s
    → slice_get (keys (limits_of s)) j ≡ Some d → open_at s d.1 ≡ Some x
    → (x.place ≡ d.1) × (limit_at a.entries x.place ≡ Some d.0)
limit_found a s j d x state at found =
    let listed = listed_deadline s j d at in
    let opened = find_get (λ (o : OpenPlace). nat_eq o.place d.1) s.open_places x found in
    let place : x.place ≡ d.1 = eqb-true x.place d.1 opened.2 in
    let arrival = state.arrivals listed.i listed.there listed.stands in (
      place,
      ap (limit_at a.entries) (place ∙ sym listed.at_place) ∙ sym arrival.limit ∙ listed.has,
    )

sooner_limit : (a : Account) (x y : OpenPlace) (d f : Deadline) → Precedes d f → x.place ≡ d.1 → y.place ≡ f.1
    → limit_at a.entries x.place ≡ Some d.0 → limit_at a.entries y.place ≡ Some f.0
    → HasSoonerLimit a.entries x.place y.place
sooner_limit a x y d f before first second has has_other =
    record {
      limit = d.0;
      other = f.0;
      has = has;
      has_other = has_other;
      sooner = elim before [
        | inl less ↦ inl less
        | inr same ↦ inr (same.0, omega (arith, first, second, same.1))
      ];
    }

due_order : (a : Account) (s : State) (moment : ℕ) → IsStateOf a s → (x y : OpenPlace)
    → InOrder (due_at s moment) x y → HasSoonerLimit a.entries x.place y.place
due_order a s moment state x y order =
    let all = keys (limits_of s) in
    let until : Deadline → Bool = λ d. not (nat_lt moment d.0) in
    let both : GivesBoth (λ (d : Deadline). open_at s d.1) (filter until all) x y =
    filter_map_order (λ (d : Deadline). open_at s d.1) (filter until all) order.0 order.1 x y order.2 order.3
    order.4 in
    let kept = filter_order until all both.x both.y both.order.0 both.order.1 both.order.2 both.order.3
    both.order.4 in
    let first = limit_found a s kept.0 both.x x state kept.3 both.gives in
    let second = limit_found a s kept.1 both.y y state kept.4 both.gives_later in
    sooner_limit a x y both.x both.y (sooner_key s both.x both.y kept) first.0 second.0 first.1 second.1

pub gone_order : (a : Account) (s : State) (moment : ℕ) (does : Act) → IsStateOf a s → (x y : OpenPlace)
    → InOrder (gone_by s moment does) x y → SettlesBefore a.entries does x.place y.place
gone_order a s moment (Hello client incarnation version) state x y order =
    absurd (one_at_most (client_waits s client) x y order)
gone_order a s moment (Arrive key call) state x y order =
    line_rises a s state (opposite (side_of call)) x y (take_order (opposites s call) (may_name call) x y
    order)
gone_order a s moment (Cancel key) state x y order =
    absurd (one_at_most (client_waits s key.client) x y order)
gone_order a s moment Tick state x y order = due_order a s moment state x y order

-- ---- the order of who is settled

pub settled_order : (a : Account) (s : State) (e : Entry) → Comes a s e
    → ((x : OpenPlace) (i : ℕ) → slice_get (gone_by s e.moment e.act) i ≡ Some x → IsArrival a.entries x)
    → (i j p q : ℕ) (one other : Settled) (call called : Call) → i < j
    → slice_get (following s e.moment e.act).settles i ≡ Some one
    → slice_get (following s e.moment e.act).settles j ≡ Some other
    → WaitsThere a.entries one.key p call → WaitsThere a.entries other.key q called
    → SettlesBefore a.entries e.act p q
settled_order a s e comes arrives i j p q one other call called less first second waits waits_other =
    let told = tells s e.act in
    let gone = gone_by s e.moment e.act in
    let given = settles_are s e.moment e.act in
    let both : GivesBoth (settled_at told) gone one other =
    filter_map_order (settled_at told) gone i j one other less
    (subst (λ list. slice_get list i ≡ Some one) given first)
    (subst (λ list. slice_get list j ≡ Some other) given second) in
    let before = gone_order a s e.moment e.act comes.state both.x both.y both.order in
    let arrival = arrives both.x both.order.0 both.order.3 in
    let later = arrives both.y both.order.1 both.order.4 in
    let place = waits_here a both.x one told p call comes.legal arrival both.gives waits in
    let next = waits_here a both.y other told q called comes.legal later both.gives_later waits_other in
    subst (λ r. SettlesBefore a.entries e.act r q) place
    (subst (λ r. SettlesBefore a.entries e.act both.x.place r) next before)
