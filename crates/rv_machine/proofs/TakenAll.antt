-- A machine that took some of a queue's oldest items, one a pass.
use Rattle.std.proofs.Common.{◌≡◌, ◌<◌, ◌≤◌, ◌++◌, ◌∷◌, ◌∙◌, ◌+◌, ℕ, List, [], Option, Some, None, IsSome}
use Rattle.std.proofs.Common.{refl}
use Rattle.std.proofs.Common.{sym, ap, subst, arith, length, append_assoc}
use Rattle.std.proofs.lemmas.Bool.{false≢true}
use Rattle.std.proofs.lemmas.List.{append-nil, length-append, length-map, map-append}
use Rattle.std.proofs.lemmas.List.Elements.{filter_map-append}
use Rattle.std.proofs.lemmas.List.Sums.{fold-append}
use Rattle.std.specs.Prelude.{option_and_then, option_map, unwrap_or, vec_capacity, vec_len}
use Rattle.std.specs.Global.{Vec}
use Rattle.std.specs.List.{cons_option, filter_map}
use Rattle.rv_text.specs.declared.message.Key.{Key}
use Rattle.rv_text.specs.declared.version.Version.{Version}
use Rattle.rv_text.specs.declared.call.Side.TheVariants.{Gives}
use Rattle.rv_account.specs.state.State.{ClientState, OpenPlace, State, client_at}
use Rattle.rv_account.specs.state.After.{Settled, but, closed, receipt_of, session_version, settled_all}
use Rattle.rv_account.specs.state.After.{settled_at}
use Rattle.rv_account.specs.state.After.{tell}
use Rattle.rv_account.proofs.OfState.ToldClients.{get_tell_all, told_client}
use Rattle.rv_machine.specs.declared.tables.Holdings.{Holdings}
use Rattle.rv_machine.specs.Machines.{IsWhole, keys_settled, state_in}
use Rattle.rv_machine.specs.open_places.OpenMap.{line_in, all_but}
use Rattle.rv_machine.specs.Taking.{TakesAll, TakesOne, items_of, settled_taken, told_taken, without_taken}
use Rattle.rv_machine.proofs.Leaving.{closed_none}
use Rattle.rv_machine.proofs.OfOpenPlaces.Parted.{but_cons, but_none}

-- ---- places that are closed one after another

pub but_append : (all gone more : List OpenPlace) → but all (gone ++ more) ≡ but (but all gone) more
but_append all [] more = ap (λ (l : List OpenPlace). but l more) (sym (but_none all))
but_append all (o ∷ gone) more =
    but_cons all (gone ++ more) o ∙ but_append (all_but all o.place) gone more
    ∙ ap (λ (l : List OpenPlace). but l more) (sym (but_cons all gone o))

pub closed_twice : (s : State) (gone more : List OpenPlace) (first then : List Settled)
    → closed (closed s gone first) more then ≡ closed s (gone ++ more) (first ++ then)
closed_twice s gone more first then =
    let opens = sym (but_append s.open_places gone more) in
    let clients = sym (fold-append tell s.clients first then) in
    λ i. record {
      epoch = s.epoch;
      moment = s.moment;
      length = s.length;
      open_places = opens i;
      clients = clients i;
    }

-- ---- who is told keeps its version

version_kept : (xs : List Settled) (client : ℕ) (o : Option ClientState)
    → option_map (λ (c : ClientState). c.version) (option_map (told_client xs client) o)
    ≡ option_map (λ (c : ClientState). c.version) o
version_kept xs client None = refl
version_kept xs client (Some session) = refl

pub versions_stay : (s : State) (gone : List OpenPlace) (xs : List Settled) (key : Key)
    → session_version (closed s gone xs) key ≡ session_version s key
versions_stay s gone xs key =
    ap (λ (o : Option ClientState). option_map (λ (c : ClientState). c.version) o)
    (get_tell_all xs s.clients key.client)
    ∙ version_kept xs key.client (client_at s key.client)

pub settles_same : (s : State) (gone more : List OpenPlace) (xs : List Settled) (taker : Key)
    → settled_taken (closed s gone xs) taker more ≡ settled_taken s taker more
settles_same s gone more xs taker = λ i. settled_all (λ there waits.
    option_and_then (λ (v : Version). receipt_of v (Some taker)) (versions_stay s gone xs waits i)) more

pub taken_twice : (s : State) (taker : Key) (gone more : List OpenPlace)
    → without_taken (without_taken s taker gone) taker more ≡ without_taken s taker (gone ++ more)
taken_twice s taker gone more =
    ap (closed (without_taken s taker gone) more) (settles_same s gone more (settled_taken s taker gone)
    taker)
    ∙ closed_twice s gone more (settled_taken s taker gone) (settled_taken s taker more)
    ∙ ap (closed s (gone ++ more)) (sym (filter_map-append (settled_at (told_taken s taker)) gone more))

-- ---- one more

one_item : (o : Option (List ℕ)) → IsSome o → cons_option o [] ≡ unwrap_or o [] ∷ []
one_item None some = absurd (false≢true some)
one_item (Some item) some = refl

pub takes_none : (m : Holdings) (queue : ℕ) (taker : Key) (items : List (List ℕ)) (places : List ℕ)
    → items ≡ [] → places ≡ [] → TakesAll m m queue taker 0 items places
takes_none m queue taker items places no_items no_places = record {
  gone = [];
  number = refl;
  first = refl;
  fewer = omega arith;
  state = sym (closed_none (state_in m));
  listed = sym (append-nil m.settled.items);
  items_are = no_items;
  places_are = no_places;
}

module _ (old now new : Holdings) (queue count : ℕ) (taker : Key) (there : OpenPlace) (items :
    List (List ℕ))
    (places : List ℕ) (is : TakesAll old now queue taker count items places)
    (one : TakesOne now new queue taker there) where
  abbrev s : State
  s = state_in old

  settles_here : settled_taken (state_in now) taker (there ∷ []) ≡ settled_taken s taker (there ∷ [])
  settles_here =
      ap (λ (x : State). settled_taken x taker (there ∷ [])) is.state
      ∙ settles_same s is.gone (there ∷ []) (settled_taken s taker is.gone) taker

  settles_both : settled_taken s taker is.gone ++ settled_taken s taker (there ∷ [])
      ≡ settled_taken s taker (is.gone ++ there ∷ [])
  settles_both = sym (filter_map-append (settled_at (told_taken s taker)) is.gone (there ∷ []))

  pub takes_more : TakesAll old new queue taker (count + 1) (items ++ unwrap_or there.item [] ∷ [])
      (places ++ there.place ∷ [])
  takes_more = record {
    gone = is.gone ++ there ∷ [];
    number = length-append is.gone (there ∷ []) ∙ ap (λ n. n + 1) is.number;
    first = is.first ∙ ap (λ (l : List OpenPlace). is.gone ++ l) one.first
        ∙ sym (append_assoc is.gone (there ∷ []) (line_in new.table (Gives queue)));
    fewer = omega (arith, is.fewer, one.fewer);
    state = one.state ∙ ap (λ (x : State). without_taken x taker (there ∷ [])) is.state
        ∙ taken_twice s taker is.gone (there ∷ []);
    listed = one.listed
        ∙ ap (λ (l : List Settled). now.settled.items ++ keys_settled l) settles_here
        ∙ ap (λ (l : List Key). l ++ keys_settled (settled_taken s taker (there ∷ []))) is.listed
        ∙ append_assoc old.settled.items (keys_settled (settled_taken s taker is.gone))
        (keys_settled (settled_taken s taker (there ∷ [])))
        ∙ ap (λ (l : List Key). old.settled.items ++ l)
        (sym (map-append (λ (x : Settled). x.key) (settled_taken s taker is.gone)
        (settled_taken s taker (there ∷ []))))
        ∙ ap (λ (l : List Settled). old.settled.items ++ keys_settled l) settles_both;
    items_are = ap (λ (l : List (List ℕ)). l ++ unwrap_or there.item [] ∷ []) is.items_are
        ∙ ap (λ (l : List (List ℕ)). items_of is.gone ++ l) (sym (one_item there.item one.has))
        ∙ sym (filter_map-append (λ (o : OpenPlace). o.item) is.gone (there ∷ []));
    places_are = ap (λ (l : List ℕ). l ++ there.place ∷ []) is.places_are
        ∙ sym (map-append (λ (o : OpenPlace). o.place) is.gone (there ∷ []));
  }

-- ---- the loop

-- so many were taken so far, of the most for which there is room
pub record TookSoMany (old now : Holdings) (queue most count : ℕ) (taker : Key) (items : Vec (List ℕ))
    (places : Vec ℕ) : Type 0 where
  pub ready : IsWhole now
  pub takes : TakesAll old now queue taker count items.items places.items
  pub items_room : most ≤ vec_capacity items
  pub places_room : most ≤ vec_capacity places

pub took_nothing : (m : Holdings) (queue most : ℕ) (taker : Key) (items : Vec (List ℕ)) (places : Vec ℕ)
    → IsWhole m → items.items ≡ [] → places.items ≡ [] → most ≤ vec_capacity items
    → most ≤ vec_capacity places → TookSoMany m m queue most 0 taker items places
took_nothing m queue most taker items places ready no_items no_places items_room places_room = record {
  ready = ready;
  takes = takes_none m queue taker items.items places.items no_items no_places;
  items_room = items_room;
  places_room = places_room;
}

no_longer : {X Y : Type 0} (h : X → Option Y) (xs : List X) → length (filter_map h xs) ≤ length xs
no_longer h [] = omega arith
no_longer {Y = Y} h (x ∷ xs) = by_head (h x) (no_longer h xs)
  where
    by_head : (o : Option Y) → length (filter_map h xs) ≤ length xs
        → length (cons_option o (filter_map h xs)) ≤ length (x ∷ xs)
    by_head None rest = omega (arith, rest)
    by_head (Some y) rest = omega (arith, rest)

-- there is room for one more
pub items_left : (old now : Holdings) (queue most count : ℕ) (taker : Key) (items : Vec (List ℕ))
    (places :
    Vec ℕ)
    → TookSoMany old now queue most count taker items places → count < most
    → vec_len items < vec_capacity items
items_left old now queue most count taker items places is less =
    let long : vec_len items ≡ length items.items = items.ok.0 in
    let same : length items.items ≡ length (items_of is.takes.gone) = ap length is.takes.items_are in
    let few : length (items_of is.takes.gone) ≤ length is.takes.gone =
    no_longer (λ (o : OpenPlace). o.item) is.takes.gone in
    omega (arith, long, same, few, is.takes.number, is.items_room, less)

pub places_left : (old now : Holdings) (queue most count : ℕ) (taker : Key) (items : Vec (List ℕ))
    (places :
    Vec ℕ)
    → TookSoMany old now queue most count taker items places → count < most
    → vec_len places < vec_capacity places
places_left old now queue most count taker items places is less =
    let long : vec_len places ≡ length places.items = places.ok.0 in
    let same : length places.items ≡ length is.takes.gone = ap length is.takes.places_are
    ∙ length-map is.takes.gone (λ (o : OpenPlace). o.place) in
    omega (arith, long, same, is.takes.number, is.places_room, less)

-- and one more to take
pub line_left : (old now : Holdings) (queue most count : ℕ) (taker : Key) (items : Vec (List ℕ))
    (places :
    Vec ℕ)
    → TookSoMany old now queue most count taker items places → count < most
    → most ≤ length (line_in old.table (Gives queue)) → 0 < length (line_in now.table (Gives queue))
line_left old now queue most count taker items places is less there =
    let parts : length (line_in old.table (Gives queue))
    ≡ length is.takes.gone + length (line_in now.table (Gives queue)) = ap length is.takes.first
    ∙ length-append is.takes.gone (line_in now.table (Gives queue)) in
    omega (arith, parts, is.takes.number, less, there)

pub took_more : (old now new : Holdings) (queue most count : ℕ) (taker : Key) (there : OpenPlace)
    (items after : Vec (List ℕ)) (places then : Vec ℕ)
    → TookSoMany old now queue most count taker items places → TakesOne now new queue taker there
    → IsWhole new
    → after.items ≡ items.items ++ unwrap_or there.item [] ∷ []
    → then.items ≡ places.items ++ there.place ∷ [] → vec_capacity after ≡ vec_capacity items
    → vec_capacity then ≡ vec_capacity places → TookSoMany old new queue most (count + 1) taker after then
took_more old now new queue most count taker there items after places then is one ready more_items more_places
    same_items same_places = record {
      ready = ready;
      takes = subst (λ (l : List (List ℕ)). TakesAll old new queue taker (count + 1) l then.items)
          (sym more_items)
          (subst (λ (l : List ℕ). TakesAll old new queue taker (count + 1)
          (items.items ++ unwrap_or there.item [] ∷ []) l) (sym more_places)
          (takes_more old now new queue count taker there items.items places.items is.takes one));
      items_room = omega (arith, is.items_room, same_items);
      places_room = omega (arith, is.places_room, same_places);
    }
