-- What an arrival and the one that it meets are told.
use Rattle.std.proofs.Common.{◌≡◌, ◌∙◌, ◌∷◌, ℕ, List, [], true, Option, Some, None, IsSome}
use Rattle.std.proofs.Common.{refl, sym, ap, subst, slice_get, nat_eq}
use Rattle.std.specs.Prelude.{option_and_then, option_map}
use Rattle.std.proofs.lemmas.Bool.{false≢true}
use Rattle.rv_text.specs.declared.message.Key.{Key}
use Rattle.rv_text.specs.declared.version.Version.{Version}
use Rattle.rv_text.specs.declared.version.Version.TheVariants.{One, Two}
use Rattle.rv_text.specs.declared.call.Call.{Call}
use Rattle.rv_text.specs.declared.call.Call.TheVariants as call
use Rattle.rv_text.specs.declared.call.Side.{Side}
use Rattle.rv_text.specs.declared.call.Side.TheVariants.{Gives, Takes, Looks, Exchanges}
use Rattle.rv_text.specs.declared.call.Wait.{Wait}
use Rattle.rv_text.specs.declared.answer.Reply.{Reply}
use Rattle.rv_text.specs.declared.answer.Reply.TheVariants as reply
use Rattle.rv_text.specs.Calls.{drains_of, item_of, side_of, wait_of}
use Rattle.rv_session.specs.declared.client.ClientState.{ClientState}
use Rattle.rv_account.specs.Calls.{opposite}
use Rattle.rv_account.specs.state.State.{OpenPlace, State, Waiter, call_waiting, client_at}
use Rattle.rv_account.specs.state.After.{Settled, key_of_waiter, receipt_of, session_version, settled_all}
use Rattle.rv_account.specs.state.After.{told_met}
use Rattle.rv_account.specs.state.After.{told_own, told_partner}
use Rattle.rv_account.proofs.OfState.Filtered.{find_get}
use Rattle.rv_account.proofs.OfState.Words.{cons_option, none-some, same_Some}
use Rattle.rv_machine.specs.open_places.OpenMap.{found_at}
use Rattle.rv_machine.specs.Machines.{IsConsistent, IsWaiter, WaitsLong}
use Rattle.rv_machine.specs.Telling.{told_arriving, told_on_side}
use Rattle.rv_machine.proofs.Lying.{gives_item}

no_side : (side : Side) → None ≡ Some side → ⊥
no_side side is = none-some side is

-- who exchanges hands an item over
exchange_item : (its : Call) (exchanger : ℕ) → side_of its ≡ Exchanges exchanger → IsSome (item_of its)
exchange_item (call.Put q item) e is = refl
exchange_item (call.Transfer q item wait) e is = refl
exchange_item (call.Take q wait) e is = let no : ⊥ = cc in absurd no
exchange_item (call.Swap x item wait) e is = refl
exchange_item (call.Count q) e is = let no : ⊥ = cc in absurd no
exchange_item (call.Peek q) e is = let no : ⊥ = cc in absurd no
exchange_item (call.Drain q max) e is = let no : ⊥ = cc in absurd no

-- one that waits long is told by its side and its session's version
pub met_by_side : (s : State) (key : Key) (its : Call) (other : Option Key) (gets : Option (List ℕ))
    (version : Version) → WaitsLong its → session_version s key ≡ Some version
    → told_met s key its other gets ≡ told_on_side (side_of its) version other gets
met_by_side s key (call.Put q item) other gets version long is = absurd (false≢true long.0)
met_by_side s key (call.Transfer q item wait) other gets version long is =
    ap (option_and_then (λ v. receipt_of v other)) is
met_by_side s key (call.Take q wait) other gets version long is = refl
met_by_side s key (call.Swap e item wait) other gets version long is = refl
met_by_side s key (call.Count q) other gets version long is = absurd (false≢true long.0)
met_by_side s key (call.Peek q) other gets version long is = absurd (false≢true long.0)
met_by_side s key (call.Drain q max) other gets version long is = absurd long.1

-- and so is an arrival that meets one
pub own_by_side : (s : State) (key : Key) (its : Call) (there : OpenPlace) (version : Version)
    → IsSome (opposite (side_of its)) → drains_of its ≡ None → session_version s key ≡ Some version
    → told_own s key its (there ∷ [])
    ≡ told_arriving (wait_of its) (side_of its) version (key_of_waiter there) there.item
own_by_side s key (call.Put q item) there version meets one is = refl
own_by_side s key (call.Transfer q item wait) there version meets one is =
    ap (option_and_then (λ v. receipt_of v (key_of_waiter there))) is
own_by_side s key (call.Take q wait) there version meets one is = refl
own_by_side s key (call.Swap e item wait) there version meets one is = refl
own_by_side s key (call.Count q) there version meets one is = absurd (false≢true meets)
own_by_side s key (call.Peek q) there version meets one is = absurd (false≢true meets)
own_by_side s key (call.Drain q max) there version meets one is = absurd (none-some max (sym one))

some_item : {X : Type 0} (f : List ℕ → X) (o : Option (List ℕ)) → IsSome o → IsSome (option_map f o)
some_item f None some = absurd (false≢true some)
some_item f (Some x) some = refl

pub some_receipt : (version : Version) (o : Option Key) → IsSome o → IsSome (receipt_of version o)
some_receipt One o some = refl
some_receipt Two None some = absurd (false≢true some)
some_receipt Two (Some key) some = refl

-- what comes to the side that a call faces
pub partner_told : (its : Call) (other : Side) (version : Version) (key : Key)
    → opposite (side_of its) ≡ Some other → IsSome (told_on_side other version (Some key) (item_of its))
partner_told its other version key opposes = by_side (side_of its) refl
  where
    by_side : (side : Side) → side_of its ≡ side
        → IsSome (told_on_side other version (Some key) (item_of its))
    by_side (Gives q) is =
        subst (λ (x : Side). IsSome (told_on_side x version (Some key) (item_of its)))
        (same_Some _ _ (sym (ap opposite is) ∙ opposes))
        (some_item (λ item. reply.Item item) (item_of its) (gives_item its q is))
    by_side (Takes q) is =
        subst (λ (x : Side). IsSome (told_on_side x version (Some key) (item_of its)))
        (same_Some _ _ (sym (ap opposite is) ∙ opposes)) (some_receipt version (Some key) refl)
    by_side (Looks q) is = absurd (no_side other (sym (ap opposite is) ∙ opposes))
    by_side (Exchanges e) is =
        subst (λ (x : Side). IsSome (told_on_side x version (Some key) (item_of its)))
        (same_Some _ _ (sym (ap opposite is) ∙ opposes))
        (some_item (λ item. reply.Swapped item) (item_of its) (exchange_item its e is))

module _ (s : State) (is : IsConsistent s) (place : ℕ) (there : OpenPlace)
    (found : found_at s.open_places place ≡ Some there) where
  stands : (i : ℕ) × (slice_get s.open_places i ≡ Some there) × (nat_eq there.place place ≡ true)
  stands = find_get (λ (o : OpenPlace). nat_eq o.place place) s.open_places there found

  -- whoever doesn't give waits
  pub waits_there : (side : Side) → there.side ≡ side → ((q : ℕ) → side ≡ Gives q → ⊥) → IsSome there.waiter
  waits_there side its differs = by_waiter there.waiter refl
    where
      by_waiter : (w : Option Waiter) → there.waiter ≡ w → IsSome w
      by_waiter None none =
          let lies = is.lie stands.0 there stands.1 none in
          absurd (differs lies.queue (sym its ∙ lies.side))
      by_waiter (Some w) some = refl

  -- what faces an arrival has the item that it takes
  pub item_there : (side : Side) → there.side ≡ side → ((q : ℕ) → side ≡ Takes q → ⊥)
      → ((q : ℕ) → side ≡ Looks q → ⊥) → IsSome there.item
  item_there side its no_taker no_looker = by_waiter there.waiter refl
    where
      of_call : (c : Call) → side_of c ≡ side → IsSome (item_of c)
      of_call (call.Put q item) at = refl
      of_call (call.Transfer q item wait) at = refl
      of_call (call.Take q wait) at = absurd (no_taker q (sym at))
      of_call (call.Swap e item wait) at = refl
      of_call (call.Count q) at = absurd (no_looker q (sym at))
      of_call (call.Peek q) at = absurd (no_looker q (sym at))
      of_call (call.Drain q max) at = absurd (no_taker q (sym at))

      by_waiter : (w : Option Waiter) → there.waiter ≡ w → IsSome there.item
      by_waiter None none =
          let lies = is.lie stands.0 there stands.1 none in
          subst (λ (o : Option (List ℕ)). IsSome o) (sym lies.has) refl
      by_waiter (Some w) some =
          let own = is.wait_queues stands.0 there w stands.1 some in
          subst (λ (o : Option (List ℕ)). IsSome o) (sym own.item) (of_call own.call (sym own.side ∙ its))

  key_some : (w : Option Waiter) → IsSome w → IsSome (option_map (λ (x : Waiter). x.key) w)
  key_some None some = absurd (false≢true some)
  key_some (Some w) some = refl

  -- an arrival that meets it is told
  pub arrival_told : (its : Call) (version : Version) → opposite (side_of its) ≡ Some there.side
      → IsSome (told_arriving (wait_of its) (side_of its) version (key_of_waiter there) there.item)
  arrival_told its version opposes = by_wait (wait_of its)
    where
      by_side : (side : Side) → opposite side ≡ Some there.side
          → IsSome (told_on_side side version (key_of_waiter there) there.item)
      by_side (Gives q) faces =
          let at : Takes q ≡ there.side = same_Some _ _ faces in
          some_receipt version (key_of_waiter there)
          (key_some there.waiter (waits_there (Takes q) (sym at) (λ r e. cc)))
      by_side (Takes q) faces =
          let at : Gives q ≡ there.side = same_Some _ _ faces in
          some_item (λ item. reply.Item item) there.item
          (item_there (Gives q) (sym at) (λ r e. cc) (λ r e. cc))
      by_side (Looks q) faces = absurd (no_side there.side faces)
      by_side (Exchanges e) faces =
          let at : Exchanges e ≡ there.side = same_Some _ _ faces in
          some_item (λ item. reply.Swapped item) there.item
          (item_there (Exchanges e) (sym at) (λ r x. cc) (λ r x. cc))

      by_wait : (wait : Option Wait)
          → IsSome (told_arriving wait (side_of its) version (key_of_waiter there) there.item)
      by_wait None = refl
      by_wait (Some wait) = by_side (side_of its) opposes

  -- who waits there is settled so by an arrival
  pub settles_one : (key : Key) (its : Call) (w : Waiter) (reply : Reply) → there.waiter ≡ Some w
      → (own : IsWaiter s there w) → told_on_side there.side own.session.version (Some key) (item_of its) ≡
      Some reply
      → settled_all (told_partner s key its) (there ∷ []) ≡ record { key = w.key; reply = reply } ∷ []
  settles_one key its w reply waits own told =
      let version : session_version s w.key ≡ Some own.session.version =
      ap (option_map (λ (c : ClientState). c.version)) own.known in
      let asked : option_and_then (λ (c : ClientState). call_waiting c.request) (client_at s w.key.client)
      ≡ Some own.call =
      ap (option_and_then (λ (c : ClientState). call_waiting c.request)) own.known ∙ ap call_waiting own.waits
      in
      let is_told : told_partner s key its there w.key ≡ Some reply =
      ap (option_and_then (λ c. told_met s w.key c (Some key) (item_of its))) asked
      ∙ met_by_side s w.key own.call (Some key) (item_of its) own.session.version own.lasts version
      ∙ ap (λ (side : Side). told_on_side side own.session.version (Some key) (item_of its)) (sym own.side)
      ∙ told in
      ap (λ (o : Option Waiter). cons_option (option_and_then (λ x. option_map
      (λ r. let one : Settled = record { key = x.key; reply = r } in one) (told_partner s key its there
      x.key)) o) [])
      waits
      ∙ ap (λ (o : Option Reply). cons_option (option_map
      (λ r. let one : Settled = record { key = w.key; reply = r } in one) o) []) is_told

  pub settles_nobody : (key : Key) (its : Call) → there.waiter ≡ None
      → settled_all (told_partner s key its) (there ∷ []) ≡ []
  settles_nobody key its none =
      ap (λ (o : Option Waiter). cons_option (option_and_then (λ x. option_map
      (λ r. let one : Settled = record { key = x.key; reply = r } in one) (told_partner s key its there
      x.key)) o) [])
      none

-- what an arrival is told, as the machine reads its call
pub same_told : (wait : Option Wait) (side : Side) (its : Call) (version : Version) (taker : Option Key)
    (there : OpenPlace) → wait ≡ wait_of its → side ≡ side_of its → taker ≡ key_of_waiter there
    → told_arriving wait side version taker there.item
    ≡ told_arriving (wait_of its) (side_of its) version (key_of_waiter there) there.item
same_told wait side its version taker there wait_is side_is taker_is =
    λ i. told_arriving (wait_is i) (side_is i) version (taker_is i) there.item
