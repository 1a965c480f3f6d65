-- The room after an act that opens nothing: who waited and is gone makes place for its entry.
use Rattle.std.proofs.Common.{◌≡◌, ◌≤◌, ◌+◌, ◌∷◌, ◌∙◌, ◌⊎◌, ℕ, suc, List, [], Bool, true, false, cond}
use Rattle.std.proofs.Common.{not, Option, Some, None, IsSome, is_some, inl, inr, length, refl, sym, ap}
use Rattle.std.proofs.Common.{arith, slice_get, nat_eq, IsTrue, option_and_then}
use Rattle.std.specs.Prelude.{filter}
use Rattle.std.specs.List.{list_any}
use Rattle.std.specs.FinMap.{len}
use Rattle.std.proofs.lemmas.Bool.{eqb-true, false≢true, true≢false}
use Rattle.std.proofs.lemmas.Option.{none-some}
use Rattle.rv_text.specs.Members.{max_identifier}
use Rattle.rv_account.specs.Limits.{max_moment}
use Rattle.rv_account.specs.declared.entry.Act.{Act}
use Rattle.rv_session.specs.Clients.{place_waiting}
use Rattle.rv_account.specs.state.resume.Resuming.{CanResume, StaysInRoom}
use Rattle.rv_account.proofs.OfState.Resumed.Counts.{length_acted, places_within, waiter_gone, wait_queues}
use Rattle.rv_account.proofs.OfState.Resumed.Counts.{waiting_acted, waiting_within}
use Rattle.rv_account.proofs.OfState.Resumed.Kept.{holds}
use Rattle.rv_account.proofs.OfState.Resumed.Stopping.{waits_found}
use Rattle.rv_account.specs.state.After.{acted, but, following, just_open}
use Rattle.rv_account.specs.state.State.{ClientState, OpenPlace, State, client_at, client_waits, open_at}
use Rattle.rv_account.specs.state.State.{waiting_count}
use Rattle.rv_account.proofs.OfState.Filtered.{any_get}
use Rattle.rv_account.proofs.OfState.GoneBy.{gone_by}
use Rattle.rv_account.proofs.OfState.OpensBy.{opens_by}
use Rattle.rv_verify.specs.follow.state_rules.Rooming.{AwaitsNothing, HasAwaiting, HasSpace}
use Rattle.rv_verify.proofs.OfFollow.OfAsked.DueNow.{Iff}

-- ---- nobody who waits is gone

abbrev pub Unawaited : List OpenPlace → List OpenPlace → Type 0
Unawaited all gone = (i j : ℕ) (o x : OpenPlace) → slice_get all i ≡ Some o → slice_get gone j ≡ Some x
    → x.place ≡ o.place → is_some o.waiter ≡ false

abbrev pub is_left : List OpenPlace → OpenPlace → Bool
is_left gone o = not (list_any (λ (other : OpenPlace). nat_eq other.place o.place) gone)

both_more : (c : Bool) (o : OpenPlace) (left all : List OpenPlace) → length left ≡ length all
    → length (cond c (o ∷ left) left) ≡ length (cond c (o ∷ all) all)
both_more true o left all same = omega (arith, same)
both_more false o left all same = same

not_true : (b : Bool) → not b ≡ false → b ≡ true
not_true true is = refl
not_true false is = absurd (true≢false is)

module _ (o : OpenPlace) (all gone : List OpenPlace) where
  one_left : (b : Bool) → is_left gone o ≡ b → (is_left gone o ≡ false → is_some o.waiter ≡ false)
      → wait_queues (but all gone) ≡ wait_queues all
      → wait_queues (cond b (o ∷ but all gone) (but all gone)) ≡ wait_queues
      (o ∷ all)
  one_left true is none same =
      both_more (is_some o.waiter) o (filter (λ (x : OpenPlace). is_some x.waiter) (but all gone))
      (filter (λ (x : OpenPlace). is_some x.waiter) all) same
  one_left false is none same =
      same ∙ ap (λ c. length (cond c (o ∷ filter (λ (x : OpenPlace). is_some x.waiter) all)
      (filter (λ (x : OpenPlace). is_some x.waiter) all))) (sym (none is))

pub none_gone : (all gone : List OpenPlace) → Unawaited all gone
    → wait_queues (but all gone) ≡ wait_queues all
none_gone [] gone none = refl
none_gone (o ∷ all) gone none =
    one_left o all gone (is_left gone o) refl
    (λ goes.
    let found = any_get (λ (other : OpenPlace). nat_eq other.place o.place) gone (not_true _ goes) in
    none 0 found.0 o found.1 refl found.2 (eqb-true found.1.place o.place found.3))
    (none_gone all gone (λ i j x y at. none (suc i) j x y at))

-- ---- an act that opens nothing

module _ (s : State) (is : CanResume s) (moment : ℕ) (time : moment ≤ max_moment) (does : Act)
    (none : opens_by s moment does ≡ []) (few : len (acted s moment does).after.clients ≤ 100000) where
  abbrev after : State
  after = (following s moment does).after

  left_waits : waiting_count (acted s moment does).after
      ≡ wait_queues (but s.open_places (gone_by s moment does))
  left_waits =
      let is_count = waiting_acted s moment does in
      let no_more : wait_queues (opens_by s moment does) ≡ 0 = ap wait_queues none in
      omega (arith, is_count, no_more)

  pub calm_room : s.length + 1 + wait_queues (but s.open_places (gone_by s moment does)) ≤ max_identifier
      → StaysInRoom after
  calm_room space =
      let places = places_within s moment does in
      let no_more : length (opens_by s moment does) ≡ 0 = ap length none in
      let open_few = is.room.places in
      let long = length_acted s moment does in
      let left = left_waits in
      record {
        time = time;
        space = omega (arith, space, long, left);
        clients = few;
        places = omega (arith, places, no_more, open_few);
      }

  pub room_space : StaysInRoom after
      → s.length + 1 + wait_queues (but s.open_places (gone_by s moment does)) ≤ max_identifier
  room_space room =
      let long = length_acted s moment does in
      let left = left_waits in
      let space = room.space in
      omega (arith, space, long, left)

  pub fewer : wait_queues (but s.open_places (gone_by s moment does)) ≤ waiting_count s
  fewer =
      let within = waiting_within s moment does in
      let is_count = waiting_acted s moment does in
      let no_more : wait_queues (opens_by s moment does) ≡ 0 = ap wait_queues none in
      omega (arith, within, is_count, no_more)

  -- with space for it
  pub spaced : HasSpace s 1 → StaysInRoom after
  spaced space = let less = fewer in calm_room (omega (arith, less, space))

  -- where one who waited is gone
  pub freed : (i j : ℕ) (o x : OpenPlace) → slice_get s.open_places i ≡ Some o → is_some o.waiter ≡ true
      → slice_get (gone_by s moment does) j ≡ Some x → x.place ≡ o.place → StaysInRoom after
  freed i j o x at waits stands same =
      let less = waiter_gone s.open_places (gone_by s moment does) i j o x at waits stands same in
      let space = is.room.space in
      calm_room (omega (arith, less, space))

  -- and where nobody is, only with space
  pub unfreed : Unawaited s.open_places (gone_by s moment does) → StaysInRoom after → HasSpace s 1
  unfreed idle room =
      let space = room_space room in
      let same = none_gone s.open_places (gone_by s moment does) idle in
      omega (arith, space, same)

-- ---- of a client

some_there : {X : Type 0} (o : Option X) → IsSome o → (x : X) × (o ≡ Some x)
some_there None some = absurd (false≢true some)
some_there (Some x) some = (x, refl)

idle_by : (s : State) (client : ℕ) (o : Option ClientState) → client_at s client ≡ o → AwaitsNothing s client
    → option_and_then (open_at s) (option_and_then (λ (c : ClientState). place_waiting c.request) o) ≡ None
idle_by s client None known idle = refl
idle_by s client (Some session) known idle = ap (option_and_then (open_at s)) (idle session known)

pub idle_waits : (s : State) (client : ℕ) → AwaitsNothing s client → client_waits s client ≡ None
idle_waits s client idle = idle_by s client (client_at s client) refl idle

module _ (s : State) (is : CanResume s) (moment : ℕ) (time : moment ≤ max_moment) (does : Act) (client : ℕ)
    (none : opens_by s moment does ≡ [])
    (gone : gone_by s moment does ≡ just_open (client_waits s client)) where
  pub place_there : len (acted s moment does).after.clients ≤ 100000
      → HasSpace s 1 ⊎ HasAwaiting s client → StaysInRoom (following s moment does).after
  place_there few (inl space) = spaced s is moment time does none few space
  place_there few (inr awaits) =
      let place = some_there (place_waiting awaits.session.request) awaits.waits in
      let found = waits_found s (holds s is) client awaits.session place.0 awaits.known place.1 in
      let stands = found.0 in
      freed s is moment time does none few stands.is_open.0 0 stands.there found.1 stands.is_open.1
      (ap is_some stands.waits)
      (ap (λ (l : List OpenPlace). slice_get l 0) (gone ∙ ap just_open found.2)) found.3

  pub no_place : len (acted s moment does).after.clients ≤ 100000 → (HasSpace s 1 → ⊥)
      → AwaitsNothing s client → StaysInRoom (following s moment does).after → ⊥
  no_place few full idle room =
      let empty : gone_by s moment does ≡ [] = gone ∙ ap just_open (idle_waits s client idle) in
      full (unfreed s is moment time does none few
      (λ i j o x at stands same. absurd (none-some x (ap (λ (l : List OpenPlace). slice_get l j) (sym empty)
      ∙ stands))) room)

  pub told_by : len (acted s moment does).after.clients ≤ 100000 → (b : Bool)
      → (b ≡ true → HasSpace s 1 ⊎ HasAwaiting s client) → (b ≡ false → HasSpace s 1 → ⊥)
      → (b ≡ false → AwaitsNothing s client)
      → Iff (IsTrue b) (StaysInRoom (following s moment does).after)
  told_by few true place full idle = (λ t. place_there few (place refl), λ room. refl)
  told_by few false place full idle =
      (λ t. absurd (false≢true t), λ room. absurd (no_place few (full refl) (idle refl) room))
