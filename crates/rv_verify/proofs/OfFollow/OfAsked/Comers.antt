-- The room after an arrival: one that meets nobody, and one that meets some.
use Rattle.std.proofs.Common.{◌≡◌, ◌<◌, ◌≤◌, ◌+◌, ◌∷◌, ◌∙◌, ◌&&◌, ℕ, zero, suc, List, [], Bool, true, false}
use Rattle.std.proofs.Common.{cond, Option, Some, is_some, length, refl, sym, ap, subst, arith}
use Rattle.std.proofs.Common.{slice_get, nat_eq, nat_lt}
use Rattle.std.specs.FinMap.{len}
use Rattle.std.proofs.lemmas.Bool.{eq-eqb, eqb-true}
use Rattle.std.proofs.lemmas.Bool.Decides.{nat_tests}
use Rattle.std.proofs.lemmas.List.{length-append}
use Rattle.std.proofs.lemmas.Option.{none-some}
use Rattle.rv_text.specs.declared.call.Call.{Call}
use Rattle.rv_text.specs.declared.call.Call.TheVariants as call
use Rattle.rv_text.specs.declared.call.Wait.{Wait}
use Rattle.rv_text.specs.declared.call.Wait.TheVariants.{Forever, Millis, Now}
use Rattle.rv_text.specs.declared.message.Key.{Key}
use Rattle.rv_account.specs.Account.{Among}
use Rattle.rv_account.specs.Calls.{need_by, need_of}
use Rattle.rv_account.specs.Limits.{max_moment}
use Rattle.rv_account.specs.declared.entry.Act.TheVariants.{Arrive}
use Rattle.rv_machine.proofs.OfOpenPlaces.Indexing.{same_place}
use Rattle.rv_account.specs.state.resume.Resuming.{CanResume, StaysInRoom}
use Rattle.rv_account.proofs.OfState.Resumed.Counts.{arrived_len, length_acted, places_within, wait_queues}
use Rattle.rv_account.proofs.OfState.Resumed.Counts.{waiting_acted}
use Rattle.rv_account.specs.state.After.{acted, but, following, lasts_by, met_by, opened_by, parked}
use Rattle.rv_account.specs.state.After.{stays_open}
use Rattle.rv_account.specs.state.State.{OpenPlace, State, Waiter, place_list, waiting_count}
use Rattle.rv_account.proofs.OfState.Filtered.{filter_all, find_get, get_find, get_map, map_get}
use Rattle.rv_account.proofs.OfState.GoneBy.{gone_by}
use Rattle.rv_account.proofs.OfState.OpensBy.{opens_by}
use Rattle.rv_account.proofs.OfState.PlacesAfter.{places_acted}
use Rattle.rv_verify.specs.follow.state_rules.Rooming.{HasSpace, IsWaitedFor, IsUnawaited}
use Rattle.rv_verify.specs.follow.state_rules.Walking.{HoldsOfAll}
use Rattle.rv_verify.proofs.OfFollow.OfAsked.Calm.{Unawaited, freed, is_left, none_gone, spaced, unfreed}

-- ---- what an arrival that meets nobody needs

module _ (s : State) (moment : ℕ) (key : Key) where
  by_wait : (c : Call) (w : Waiter) (wait : Wait) → (opened_by s moment key c).waiter ≡ Some w
      → wait_queues (cond (true && lasts_by (Some wait)) (opened_by s moment key c ∷ []) []) + 1
      ≡ need_by (Some wait)
  by_wait c w Now is = refl
  by_wait c w (Millis zero) is = refl
  by_wait c w (Millis (suc n)) is =
      ap (λ (b : Bool). wait_queues (cond (true && b) (opened_by s moment key c ∷ []) []) + 1) (less n)
      ∙ ap (λ (o : Option Waiter). length (cond (is_some o) (opened_by s moment key c ∷ []) []) + 1) is
    where
      less : (n : ℕ) → nat_lt 0 (suc n) ≡ true
      less n = grind (arith, nat_tests)
  by_wait c w Forever is =
      ap (λ (o : Option Waiter). length (cond (is_some o) (opened_by s moment key c ∷ []) []) + 1) is

  pub alone_need : (c : Call) → wait_queues (parked s moment key c []) + 1 ≡ need_of c
  alone_need (call.Put queue item) = refl
  alone_need (call.Transfer queue item wait) = by_wait (call.Transfer queue item wait) _ wait refl
  alone_need (call.Take queue wait) = by_wait (call.Take queue wait) _ wait refl
  alone_need (call.Swap exchanger item wait) = by_wait (call.Swap exchanger item wait) _ wait refl
  alone_need (call.Count queue) = refl
  alone_need (call.Peek queue) = refl
  alone_need (call.Drain queue max) = refl

module _ (s : State) (is : CanResume s) (moment : ℕ) (time : moment ≤ max_moment) (key : Key) (c : Call) where
  abbrev after : State
  after = (following s moment (Arrive key c)).after

  clients : len (acted s moment (Arrive key c)).after.clients ≤ 100000
  clients = subst (λ n. n ≤ 100000) (sym (arrived_len s moment key c)) is.room.clients

  -- ---- it meets nobody

  module _ (alone : met_by s c ≡ []) where
    opens_alone : opens_by s moment (Arrive key c) ≡ parked s moment key c []
    opens_alone = ap (parked s moment key c) alone

    waits_alone : waiting_count (acted s moment (Arrive key c)).after + 1 ≡ waiting_count s + need_of c
    waits_alone =
        let is_count = waiting_acted s moment (Arrive key c) in
        let same = none_gone s.open_places (gone_by s moment (Arrive key c))
        (λ i j o x at stands equal. absurd (none-some x (ap (λ (l : List OpenPlace). slice_get l j)
        (sym alone)
        ∙ stands))) in
        let more = ap wait_queues opens_alone in
        let need = alone_need s moment key c in
        omega (arith, is_count, same, more, need)

    pub alone_space : StaysInRoom after → HasSpace s (need_of c)
    alone_space room =
        let long = length_acted s moment (Arrive key c) in
        let waits = waits_alone in
        let space = room.space in
        omega (arith, long, waits, space)

    opens_by_stay : (b : Bool) → stays_open c [] ≡ b
        → length (opens_by s moment (Arrive key c)) ≡ length (cond b (opened_by s moment key c ∷ []) [])
    opens_by_stay b stays =
        ap length opens_alone ∙ ap (λ (b : Bool). length (cond b (opened_by s moment key c ∷ []) [])) stays

    places_by : (b : Bool) → stays_open c [] ≡ b → (b ≡ true → length s.open_places < 100000)
        → length (acted s moment (Arrive key c)).after.open_places ≤ 100000
    places_by true stays few =
        let within = places_within s moment (Arrive key c) in
        let one : length (opens_by s moment (Arrive key c)) ≡ 1 = opens_by_stay true stays in
        let less = few refl in
        omega (arith, within, one, less)
    places_by false stays few =
        let within = places_within s moment (Arrive key c) in
        let none : length (opens_by s moment (Arrive key c)) ≡ 0 = opens_by_stay false stays in
        let less = is.room.places in
        omega (arith, within, none, less)

    pub alone_room : HasSpace s (need_of c) → (stays_open c [] ≡ true → length s.open_places < 100000)
        → StaysInRoom after
    alone_room space few =
        let long = length_acted s moment (Arrive key c) in
        let waits = waits_alone in
        record {
          time = time;
          space = omega (arith, long, waits, space);
          clients = clients;
          places = places_by (stays_open c []) refl few;
        }

    pub alone_places : StaysInRoom after → stays_open c [] ≡ true → length s.open_places < 100000
    alone_places room stays =
        let all : but s.open_places (gone_by s moment (Arrive key c)) ≡ s.open_places =
        ap (but s.open_places) alone ∙ filter_all (is_left []) s.open_places (λ o. refl) in
        let places = ap length (places_acted s moment (Arrive key c))
        ∙ length-append (but s.open_places (gone_by s moment (Arrive key c)))
        (opens_by s moment (Arrive key c)) in
        let same = ap length all in
        let one : length (opens_by s moment (Arrive key c)) ≡ 1 = opens_by_stay true stays in
        let few = room.places in
        omega (arith, places, same, one, few)

  -- ---- it meets some

  module _ (partners : List ℕ) (met : place_list (met_by s c) ≡ partners) (some : 0 < length partners) where
    opens_none : (those : List OpenPlace) → 0 < length (place_list those) → parked s moment key c those ≡ []
    opens_none [] less = absurd (omega (arith, less))
    opens_none (first ∷ others) less = refl

    none : opens_by s moment (Arrive key c) ≡ []
    none = opens_none (met_by s c) (subst (λ (ps : List ℕ). 0 < length ps) (sym met) some)

    pub met_space : HasSpace s 1 → StaysInRoom after
    met_space space = spaced s is moment time (Arrive key c) none clients space

    pub met_awaited : (p : ℕ) → Among partners p → IsWaitedFor s p → StaysInRoom after
    met_awaited p among awaited =
        let at = subst (λ (ps : List ℕ). slice_get ps among.0 ≡ Some p) (sym met) among.1 in
        let x = map_get (λ (o : OpenPlace). o.place) (met_by s c) among.0 p at in
        let o = find_get (λ (o : OpenPlace). nat_eq o.place p) s.open_places awaited.there awaited.found in
        freed s is moment time (Arrive key c) none clients o.0 among.0 awaited.there x.0 o.1 awaited.waits x.1
        (x.2 ∙ sym (eqb-true awaited.there.place p o.2))

    lies : HoldsOfAll (IsUnawaited s) partners → Unawaited s.open_places (met_by s c)
    lies all i j o x at stands same =
        let among = get_map (λ (o : OpenPlace). o.place) (met_by s c) j x stands in
        let named : Among partners x.place =
        (j, subst (λ (ps : List ℕ). slice_get ps j ≡ Some x.place) met among) in
        let found = get_find (λ (y : OpenPlace). nat_eq y.place x.place) s.open_places i o at
        (eq-eqb o.place x.place (sym same)) in
        let its = find_get (λ (y : OpenPlace). nat_eq y.place x.place) s.open_places found.0 found.1 in
        let one : found.0 ≡ o = same_place s.open_places its.0 i found.0 o is.rise its.1 at
        (eqb-true found.0.place x.place its.2 ∙ same) in
        ap (λ (y : OpenPlace). is_some y.waiter) (sym one)
        ∙ ap is_some (all x.place named found.0 found.1)

    pub met_full : HoldsOfAll (IsUnawaited s) partners → (HasSpace s 1 → ⊥) → StaysInRoom after → ⊥
    met_full all full room =
        full (unfreed s is moment time (Arrive key c) none clients (lies all) room)
