-- What an arrival and those whom it meets are told, within their limits.
use Rattle.std.proofs.Common.{◌≡◌, ◌≤◌, ◌∷◌, ◌∙◌, ℕ, zero, suc, List, [], Option}
use Rattle.std.proofs.Common.{Some, None, IsSome}
use Rattle.std.proofs.Common.{refl, sym, ap, subst, arith, length, slice_get}
use Rattle.std.proofs.Common.{length-take}
use Rattle.std.specs.Prelude.{filter_map, option_and_then, option_map}
use Rattle.std.specs.List.{All, cons_option}
use Rattle.std.proofs.lemmas.List.Elements.{All-cons, All-nil}
use Rattle.rv_text.specs.declared.version.Version.{Version}
use Rattle.rv_text.specs.declared.version.Version.TheVariants.{One, Two}
use Rattle.rv_text.specs.declared.call.Call.{Call}
use Rattle.rv_text.specs.declared.call.Call.TheVariants as call
use Rattle.rv_text.specs.declared.call.Side.{Side}
use Rattle.rv_text.specs.declared.call.Side.TheVariants.{Gives, Takes, Exchanges}
use Rattle.rv_text.specs.declared.message.Key.{Key}
use Rattle.rv_text.specs.declared.answer.Reply.{Reply}
use Rattle.rv_text.specs.declared.answer.Reply.TheVariants as reply
use Rattle.rv_text.specs.Calls.{item_of, side_of, wait_of}
use Rattle.rv_text.proofs.Kept.{item_fits}
use Rattle.rv_text.specs.Limits.{FitsCall, FitsItem, FitsKey, FitsReply, IsOfEpoch}
use Rattle.rv_session.specs.declared.client.LastRequest.{LastRequest}
use Rattle.rv_session.specs.declared.client.LastRequest.TheVariants.{Fresh, Waits}
use Rattle.rv_session.specs.Clients.{call_waiting, place_waiting}
use Rattle.rv_account.specs.Calls.{Lasts, may_name, opposite}
use Rattle.rv_account.proofs.OfRules.CallKinds.{exchanges_item, gives_item}
use Rattle.rv_account.proofs.OfRules.Opposites.{opposite_back}
use Rattle.rv_account.specs.state.After.{met_by, receipt_of, session_version, told_met}
use Rattle.rv_account.specs.state.After.{told_partner, told_with}
use Rattle.rv_account.specs.state.State.{ClientState, OpenPlace, State, Waiter, client_at, line_of, opposites}
use Rattle.rv_account.proofs.OfState.Words.{none-some, same_Some}
use Rattle.rv_account.proofs.OfState.Filtered.{take_get}
use Rattle.std.proofs.Common.{inl}
use Rattle.rv_account.specs.state.resume.Suiting.{TellsReceipt, SuitsCall}
use Rattle.rv_account.specs.state.resume.Resuming.{IsLastAt, IsOpenIn}
use Rattle.rv_account.proofs.OfState.Resumed.Alone.{giver_item, in_line}
use Rattle.rv_account.proofs.OfState.Resumed.Closing.{IsTold}
use Rattle.rv_account.proofs.OfState.Resumed.Fitting.{open_item_fits}
use Rattle.rv_account.proofs.OfState.Resumed.Kept.{HoldsTogether}
use Rattle.rv_account.proofs.OfState.Resumed.Sessions.{waits_nowhere}

-- a reply is told, within its limits
pub record TellsReply (epoch : ℕ) (Suits : Reply → Type 0) (told : Option Reply) : Type 0 where
  pub reply : Reply
  pub is : told ≡ Some reply
  pub fits : FitsReply reply
  pub of_epoch : IsOfEpoch epoch reply
  pub suits : Suits reply

tells : (epoch : ℕ) (Suits : Reply → Type 0) (its : Reply) → FitsReply its → IsOfEpoch epoch its → Suits its
    → TellsReply epoch Suits (Some its)
tells epoch Suits its fits of suits =
    record { reply = its; is = refl; fits = fits; of_epoch = of; suits = suits }

-- the items of some are within their limits, and no more than those are
items_all : (xs : List OpenPlace)
    → ((i : ℕ) (o : OpenPlace) → slice_get xs i ≡ Some o → (item : List ℕ) → o.item ≡ Some item
    → FitsItem item)
    → All FitsItem (filter_map (λ (o : OpenPlace). o.item) xs)
    × (length (filter_map (λ (o : OpenPlace). o.item) xs) ≤ length xs)
items_all [] fit = (All-nil FitsItem, omega arith)
items_all (x ∷ xs) fit = by_item x.item refl (items_all xs (λ i o at. fit (suc i) o at))
  where
    by_item : (item : Option (List ℕ)) → x.item ≡ item
        → All FitsItem (filter_map (λ (o : OpenPlace). o.item) xs)
        × (length (filter_map (λ (o : OpenPlace). o.item) xs) ≤ length xs)
        → All FitsItem (cons_option item (filter_map (λ (o : OpenPlace). o.item) xs))
        × (length (cons_option item (filter_map (λ (o : OpenPlace). o.item) xs)) ≤ length (x ∷ xs))
    by_item None is rest = (rest.0, omega (arith, rest.1))
    by_item (Some item) is rest = (
      All-cons FitsItem item _ (fit 0 x refl item is) rest.0,
      omega
          (arith, rest.1),
    )

-- ---- who is met

-- who is met is open on the opposite side
pub record IsMetOn (s : State) (c : Call) (there : OpenPlace) : Type 0 where
  pub is_open : IsOpenIn s there
  pub opposes : opposite (side_of c) ≡ Some there.side

in_opposites : (s : State) (o : Option Side) (i : ℕ) (there : OpenPlace)
    → slice_get (line_of s o) i ≡ Some there → IsOpenIn s there × (o ≡ Some there.side)
in_opposites s None i there at = absurd (none-some there at)
in_opposites s (Some side) i there at =
    let found = in_line s side i there at in (found.0, ap Some (sym found.1))

pub met_on : (s : State) (c : Call) (i : ℕ) (there : OpenPlace) → slice_get (met_by s c) i ≡ Some there
    → IsMetOn s c there
met_on s c i there at =
    let found = in_opposites s (opposite (side_of c)) i there (take_get (opposites s c) (may_name c) i there
    at) in
    record { is_open = found.0; opposes = found.1 }

module _ (s : State) (is : HoldsTogether s) where
  -- the key of who waits is within its limits
  key_fits : (there : OpenPlace) (w : Waiter) → IsLastAt s there w → FitsKey w.key × (w.key.epoch ≡ s.epoch)
  key_fits there w own =
      let fits = is.sessions w.key.client own.session own.known in
      let its = own.key_is in
      subst (λ (k : Key). FitsKey k × (k.epoch ≡ s.epoch)) (sym its) (
        (
          is.epoch,
          fits.client_fits,
          fits.incarnation,
          (
            number own.session.last (λ none.
                no_fresh own.session.request there.place own.call own.waits (fits.unasked none)),
            fits.last,
          ),
        ),
        refl,
      )
    where
      number : (n : ℕ) → (n ≡ 0 → ⊥) → 1 ≤ n
      number zero some = absurd (some refl)
      number (suc n) some = omega arith

      no_fresh : (request : LastRequest) (place : ℕ) (c : Call) → request ≡ Waits place c → request ≡ Fresh
          → ⊥
      no_fresh request place c waits fresh = waits_nowhere request place c waits (ap place_waiting fresh)

  receipt : (version : Version) (key : Key) → FitsKey key → key.epoch ≡ s.epoch
      → TellsReply s.epoch (TellsReceipt version) (receipt_of version (Some key))
  receipt One key fits of = tells s.epoch (TellsReceipt One) reply.Received tt tt refl
  receipt Two key fits of =
      tells s.epoch (TellsReceipt Two) (reply.ReceivedBy key) (fits.1, (fits.2, fits.3)) of (key, refl)

  -- a transfer, by its session's version
  received : (Suits : Reply → Type 0) (key other : Key) (session : ClientState)
      → client_at s key.client ≡ Some session → FitsKey other → other.epoch ≡ s.epoch
      → ((told : Reply) → TellsReceipt session.version told → Suits told)
      → TellsReply s.epoch Suits (option_and_then (λ version. receipt_of version (Some other))
      (session_version s key))
  received Suits key other session known fits of suits =
      let told = receipt session.version other fits of in
      subst (λ (o : Option ClientState). TellsReply s.epoch Suits (option_and_then (λ version.
      receipt_of version (Some other)) (option_map (λ (c : ClientState). c.version) o))) (sym known)
      (record {
        reply = told.reply;
        is = told.is;
        fits = told.fits;
        of_epoch = told.of_epoch;
        suits = suits told.reply told.suits;
      })

  gets : (Suits : Reply → Type 0) (f : List ℕ → Reply) (o : Option (List ℕ)) (item : List ℕ) → o ≡ Some item
      → FitsReply (f item) → IsOfEpoch s.epoch (f item) → Suits (f item)
      → TellsReply s.epoch Suits (option_map f o)
  gets Suits f o item has fits of suits =
      subst (λ (o : Option (List ℕ)). TellsReply s.epoch Suits (option_map f o)) (sym has)
      (tells s.epoch Suits (f item) fits of suits)

  -- ---- a partner

  -- one that waits, met by a request with this key and call
  met_told : (its c : Call) (waits key : Key) (session : ClientState)
      → client_at s waits.client ≡ Some session → FitsKey key → key.epoch ≡ s.epoch → FitsCall c
      → IsSome (wait_of its) → Lasts (wait_of its) → opposite (side_of c) ≡ Some (side_of its)
      → TellsReply s.epoch (SuitsCall session.version its) (told_met s waits its (Some key) (item_of c))
  met_told (call.Put queue item) c waits key session known fits of call_is may lasts opposes =
      absurd (let no : ⊥ = cc in no)
  met_told (call.Transfer queue item wait) c waits key session known fits of call_is may lasts opposes =
      received (SuitsCall session.version (call.Transfer queue item wait)) waits key session known fits of
      (λ told is_receipt. inl is_receipt)
  met_told (call.Take queue wait) c waits key session known fits of call_is may lasts opposes =
      let back : Some (Gives queue) ≡ Some (side_of c) = opposite_back (side_of c) (Takes queue) opposes in
      let has = gives_item c queue (sym (same_Some _ _ back)) in
      gets (SuitsCall session.version (call.Take queue wait)) reply.Item (item_of c) has.0 has.1
      (item_fits c has.0 call_is has.1) tt (inl (has.0, refl))
  met_told (call.Swap exchanger item wait) c waits key session known fits of call_is may lasts opposes =
      let back : Some (Exchanges exchanger) ≡ Some (side_of c) =
      opposite_back (side_of c) (Exchanges exchanger) opposes in
      let has = exchanges_item c exchanger (sym (same_Some _ _ back)) in
      gets (SuitsCall session.version (call.Swap exchanger item wait)) reply.Swapped (item_of c) has.0 has.1
      (item_fits c has.0 call_is has.1) tt (inl (has.0, refl))
  met_told (call.Count queue) c waits key session known fits of call_is may lasts opposes =
      absurd (let no : ⊥ = cc in no)
  met_told (call.Peek queue) c waits key session known fits of call_is may lasts opposes =
      absurd (let no : ⊥ = cc in no)
  met_told (call.Drain queue max) c waits key session known fits of call_is may lasts opposes = absurd lasts

  pub partner_told : (key : Key) (c : Call) (there : OpenPlace) (w : Waiter) → IsMetOn s c there
      → there.waiter ≡ Some w → FitsKey key → key.epoch ≡ s.epoch → FitsCall c
      → IsTold s (told_partner s key c) there w
  partner_told key c there w met waits fits of call_is =
      let own = is.awaited there w met.is_open waits in
      let told = met_told own.call c w.key key own.session own.known fits of call_is own.may_wait own.lasts
      (met.opposes ∙ ap Some own.side) in
      record {
        reply = told.reply;
        is = ap (λ (o : Option ClientState). option_and_then (λ its. told_met s w.key its (Some key)
            (item_of c))
            (option_and_then (λ (c : ClientState). call_waiting c.request) o)) own.known
            ∙ ap (λ (r : LastRequest). option_and_then (λ its. told_met s w.key its (Some key) (item_of c))
            (call_waiting r)) own.waits
            ∙ told.is;
        fits = told.fits;
        of_epoch = told.of_epoch;
        suits = λ its.
            let one : own.session ≡ its.session = same_Some _ _ (sym own.known ∙ its.known) in
            let same : own.call ≡ its.call = same_Some _ _ (sym (ap call_waiting own.waits)
            ∙ ap (λ (c : ClientState). call_waiting c.request) one ∙ ap call_waiting its.waits) in
            subst (λ (c : ClientState). SuitsCall c.version its.call told.reply) one
            (subst (λ (c : Call). SuitsCall own.session.version c told.reply) same told.suits);
      }

  -- ---- the arrival itself

  taker_by : (there : OpenPlace) (queue : ℕ) → IsOpenIn s there → there.side ≡ Takes queue
      → (o : Option Waiter)
      → there.waiter ≡ o → (w : Waiter) × (there.waiter ≡ Some w)
  taker_by there queue at side None none =
      let own = is.lies there at none in absurd (apart own.queue (sym own.side ∙ side))
    where
      apart : (q : ℕ) → Gives q ≡ Takes queue → ⊥
      apart q is = cc
  taker_by there queue at side (Some w) waits = (w, waits)

  exchanger_by : (there : OpenPlace) (exchanger : ℕ) → IsOpenIn s there → there.side ≡ Exchanges exchanger
      → (o : Option Waiter) → there.waiter ≡ o → (item : List ℕ) × (there.item ≡ Some item)
  exchanger_by there exchanger at side None none =
      let own = is.lies there at none in absurd (apart own.queue (sym own.side ∙ side))
    where
      apart : (q : ℕ) → Gives q ≡ Exchanges exchanger → ⊥
      apart q is = cc
  exchanger_by there exchanger at side (Some w) waits =
      let own = is.awaited there w at waits in
      let has = exchanges_item own.call exchanger (sym own.side ∙ side) in (has.0, own.item ∙ has.1)

  -- it meets this one first
  module _ (key : Key) (session : ClientState) (known : client_at s key.client ≡ Some session)
      (first : OpenPlace) (others : List OpenPlace) where
    pub meeting_told : (c : Call) → FitsCall c → met_by s c ≡ first ∷ others
        → TellsReply s.epoch (SuitsCall session.version c) (told_with s key c first others)
    meeting_told c call_is met = by_call c call_is met (met_on s c 0 first
        (ap (λ (l : List OpenPlace). slice_get l 0) met))
      where
        by_call : (c : Call) → FitsCall c → met_by s c ≡ first ∷ others → IsMetOn s c first
            → TellsReply s.epoch (SuitsCall session.version c) (told_with s key c first others)
        by_call (call.Put queue item) call_is met on =
            tells s.epoch (SuitsCall session.version (call.Put queue item)) reply.Done tt tt refl
        by_call (call.Transfer queue item wait) call_is met on =
            let w = taker_by first queue on.is_open (sym (same_Some _ _ on.opposes)) first.waiter refl in
            let fits = key_fits first w.0 (is.awaited first w.0 on.is_open w.1) in
            let Suits = SuitsCall session.version (call.Transfer queue item wait) in
            subst (λ (o : Option Waiter). TellsReply s.epoch Suits (option_and_then (λ version.
            receipt_of version (option_map (λ (w : Waiter). w.key) o)) (session_version s key))) (sym w.1)
            (received Suits key w.0.key session known fits.0 fits.1 (λ told is_receipt. inl is_receipt))
        by_call (call.Take queue wait) call_is met on =
            let has = giver_item s is first on.is_open queue (sym (same_Some _ _ on.opposes)) in
            gets (SuitsCall session.version (call.Take queue wait)) reply.Item first.item has.0 has.1
            (open_item_fits s is first on.is_open has.0 has.1) tt (inl (has.0, refl))
        by_call (call.Swap exchanger item wait) call_is met on =
            let has = exchanger_by first exchanger on.is_open (sym (same_Some _ _ on.opposes)) first.waiter
            refl in
            gets (SuitsCall session.version (call.Swap exchanger item wait)) reply.Swapped first.item has.0
            has.1
            (open_item_fits s is first on.is_open has.0 has.1) tt (inl (has.0, refl))
        by_call (call.Count queue) call_is met on = absurd (none-some first.side on.opposes)
        by_call (call.Peek queue) call_is met on = absurd (none-some first.side on.opposes)
        by_call (call.Drain queue max) call_is met on =
            let few : length (first ∷ others) ≤ max =
            subst (λ (l : List OpenPlace). length l ≤ max) met
            (omega (arith, length-take max (opposites s (call.Drain queue max)))) in
            let all = items_all (first ∷ others) (λ i o at item has.
            open_item_fits s is o (met_on s (call.Drain queue max) i o
            (ap (λ (l : List OpenPlace). slice_get l i) met ∙ at)).is_open item has) in
            let items = filter_map (λ (o : OpenPlace). o.item) (first ∷ others) in
            tells s.epoch (SuitsCall session.version (call.Drain queue max)) (reply.Drained items)
            (omega (arith, few, call_is.0.1.1, all.1), all.0) tt (items, refl, omega (arith, few, all.1))
