-- What is asked of the parts of a state is what a state to resume from has.
use Rattle.std.proofs.Common.{◌≡◌, ◌≢◌, ◌<◌, ◌≤◌, ◌∙◌, ℕ, List, Option, Some}
use Rattle.std.proofs.Common.{None}
use Rattle.std.proofs.Common.{Bool, inl, inr, length, refl, sym, ap, subst, arith, get_or, slice_get}
use Rattle.std.specs.List.{All}
use Rattle.std.specs.Prelude.{filter}
use Rattle.std.proofs.lemmas.Bool.{cases_lt}
use Rattle.std.proofs.lemmas.Option.{get_or_from_slice_get, slice_get-get_or, slice_get_within}
use Rattle.rv_text.specs.declared.call.Call.{Call}
use Rattle.rv_text.specs.declared.call.Call.TheVariants as call
use Rattle.rv_text.specs.declared.call.Side.{Side}
use Rattle.rv_text.specs.declared.call.Side.TheVariants.{Exchanges, Gives, Looks, Takes}
use Rattle.rv_text.specs.Calls.{side_of}
use Rattle.rv_text.specs.Limits.{FitsCall, FitsSide}
use Rattle.rv_session.specs.declared.client.LastRequest.TheVariants.{Waits}
use Rattle.rv_account.specs.Calls.{opposite}
use Rattle.rv_account.specs.state.State.{ClientState, OpenPlace, State, Waiter, client_at, same_side}
use Rattle.rv_account.proofs.OfState.Filtered.{filter_get, filter_order, get_filter}
use Rattle.rv_account.proofs.OfState.SideLines.{same_side_is, same_side_itself}
use Rattle.rv_account.proofs.OfState.Words.{none-some, same_Some}
use Rattle.rv_session.specs.ClientOrder.{ClientsRise}
use Rattle.rv_account.specs.state.resume.Checking.{HasSide, IsCalmExchanger}
use Rattle.rv_account.specs.state.resume.Checking.{IsCalmQueue}
use Rattle.rv_account.specs.state.resume.Checking.{IsLastAmong, IsSettledIn, PassesAll, StandsWell, state_by}
use Rattle.rv_account.specs.state.resume.Resuming.{CanResume, FitsLastRequest, IsAwaitedBy, IsLastAt}
use Rattle.rv_account.specs.state.resume.Resuming.{IsOpenIn}
use Rattle.rv_account.proofs.OfState.Resumed.Kept.{HoldsTogether, holds, one_at}
use Rattle.rv_account.proofs.OfState.Resumed.MapOf.{from_map, in_map, map_long}
use Rattle.rv_account.proofs.OfState.Resumed.Ordered.{there_is}

-- ---- each of a list

all_at : {X : Type 0} (P : X → Type 0) (xs : List X) → All P xs → (i : ℕ) (x : X) → slice_get xs i ≡ Some x
    → P x
all_at P xs all i x at = subst P (get_or_from_slice_get xs i x x at) (all i x (slice_get_within xs i x at))

all_by : {X : Type 0} (P : X → Type 0) (xs : List X) → ((i : ℕ) (x : X) → slice_get xs i ≡ Some x → P x)
    → All P xs
all_by P xs each k d less = each k (get_or xs k d) (slice_get-get_or xs k d less)

-- ---- sides

pub side_fits : (c : Call) → FitsCall c → FitsSide (side_of c)
side_fits (call.Put queue item) fits = fits.0.0
side_fits (call.Transfer queue item wait) fits = fits.0.0
side_fits (call.Take queue wait) fits = fits.0.0
side_fits (call.Swap exchanger item wait) fits = fits.0.0
side_fits (call.Count queue) fits = fits.0
side_fits (call.Peek queue) fits = fits.0
side_fits (call.Drain queue max) fits = fits.0.0

module _ (epoch moment count : ℕ) (opens : List OpenPlace) (known : List (ℕ × ClientState))
    (known_rise : ClientsRise known) where
  abbrev s : State
  s = state_by epoch moment count opens known

  -- ---- from the checks to the state

  module _ (is : PassesAll epoch moment count opens known) where
    at_open : (there : OpenPlace) → IsOpenIn s there → StandsWell epoch moment count known there
    at_open there at = all_at (StandsWell epoch moment count known) opens is.stand at.0 there at.1

    of_client : (client : ℕ) (session : ClientState) → client_at s client ≡ Some session
        → IsSettledIn epoch opens client session
    of_client client session there =
        let at = from_map known known_rise client session there in
        all_at (λ (k : ℕ × ClientState). IsSettledIn epoch opens k.0 k.1) known is.settled at.0
        (client, session)
        at.1

    last_at : (there : OpenPlace) (w : Waiter) → IsOpenIn s there → there.waiter ≡ Some w → IsLastAt s there w
    last_at there w at has =
        let own = (at_open there at).awaited w has in
        record {
          session = own.session;
          known = in_map known known_rise own.i w.key.client own.session own.known;
          key_is = own.last.key_is;
          call = own.last.call;
          waits = own.last.waits;
          side = own.last.stands.side;
          item = own.last.stands.item;
          limit = own.last.stands.limit;
          may_wait = own.last.stands.may_wait;
          lasts = own.last.stands.lasts;
        }

    stands_at : (client : ℕ) (session : ClientState) (place : ℕ) (c : Call)
        → client_at s client ≡ Some session
        → session.request ≡ Waits place c → IsAwaitedBy s client place
    stands_at client session place c there waits =
        let own = (of_client client session there).standing place c waits in
        record {
          there = own.there;
          is_open = (own.i, own.stands);
          at_place = own.at_place;
          waiter = own.waiter;
          waits = own.waits;
          client_is = own.client_is;
        }

    fits_by : (there : OpenPlace) → IsOpenIn s there → (o : Option Waiter) → there.waiter ≡ o
        → FitsSide there.side
    fits_by there at None none =
        let own = (at_open there at).lies none in subst FitsSide (sym own.side) own.queue_fits
    fits_by there at (Some w) waits =
        let own = last_at there w at waits in
        let request = (of_client w.key.client own.session own.known).fits.request in
        subst FitsSide (sym own.side) (side_fits own.call
        (subst (FitsLastRequest epoch own.session.version) own.waits request))

    has : (there : OpenPlace) → IsOpenIn s there → (side : Side) → there.side ≡ side → HasSide opens side
    has there at side same = record { i = at.0; there = there; stands = at.1; is = same }

    alone : (one other : OpenPlace) → IsOpenIn s one → IsOpenIn s other → (exchanger : ℕ)
        → one.side ≡ Exchanges exchanger → other.side ≡ Exchanges exchanger → exchanger ≤ 63
        → one.place ≡ other.place
    alone one other first second exchanger is_one is_other few =
        let test = λ (o : OpenPlace). same_side o.side (Exchanges exchanger) in
        let least = is.exchangers exchanger few in
        let own = get_filter test opens first.0 one first.1
        (ap (λ x. same_side x (Exchanges exchanger)) is_one ∙ same_side_itself (Exchanges exchanger)) in
        let its = get_filter test opens second.0 other second.1
        (ap (λ x. same_side x (Exchanges exchanger)) is_other ∙ same_side_itself (Exchanges exchanger)) in
        let within = slice_get_within (filter test opens) own.0 one own.1 in
        let inside = slice_get_within (filter test opens) its.0 other its.1 in
        let same : own.0 ≡ its.0 = omega (arith, within, inside, least) in
        ap (λ (o : OpenPlace). o.place)
        (same_Some _ _ (sym own.1 ∙ ap (slice_get (filter test opens)) same ∙ its.1))

    faced : (one other : OpenPlace) → IsOpenIn s one → IsOpenIn s other → one.place ≢ other.place
        → FitsSide one.side → (side : Side) → one.side ≡ side → opposite side ≢ Some other.side
    faced one other first second apart fits (Gives queue) same opposes =
        is.queues queue (subst FitsSide same fits) (has one first (Gives queue) same)
        (has other second (Takes queue) (sym (same_Some _ _ opposes)))
    faced one other first second apart fits (Takes queue) same opposes =
        is.queues queue (subst FitsSide same fits) (has other second (Gives queue)
        (sym (same_Some _ _ opposes)))
        (has one first (Takes queue) same)
    faced one other first second apart fits (Looks queue) same opposes = none-some other.side opposes
    faced one other first second apart fits (Exchanges exchanger) same opposes =
        apart (alone one other first second exchanger same (sym (same_Some _ _ opposes))
        (subst FitsSide same fits))

    pub passes_resume : CanResume s
    passes_resume = record {
      room = record {
        time = is.room.time;
        space = is.room.space;
        clients = subst (λ n. n ≤ 100000) (sym (map_long known known_rise)) is.room.clients;
        places = is.room.places;
      };
      epoch = is.identifier;
      rise = is.rise;
      below = λ there at. (at_open there at).below;
      apart = λ one other first second apart opposes.
          faced one other first second apart (fits_by one first one.waiter refl) one.side refl opposes;
      awaited = last_at;
      began = λ there w at. (at_open there at).began w;
      lies = λ there at. (at_open there at).lies;
      undue = λ there limit at. (at_open there at).undue limit;
      standing = stands_at;
      sessions = λ client session there. (of_client client session there).fits;
    }

  -- ---- from the state to the checks

  module _ (is : CanResume s) where
    all_together : HoldsTogether s
    all_together = holds s is

    last_among : (there : OpenPlace) (w : Waiter) → IsOpenIn s there → there.waiter ≡ Some w
        → IsLastAmong epoch known there w
    last_among there w at waits =
        let own = is.awaited there w at waits in
        let found = from_map known known_rise w.key.client own.session own.known in
        record {
          i = found.0;
          session = own.session;
          known = found.1;
          last = record {
            key_is = own.key_is;
            call = own.call;
            waits = own.waits;
            stands = record {
              side = own.side;
              item = own.item;
              limit = own.limit;
              may_wait = own.may_wait;
              lasts = own.lasts;
            };
          };
        }

    settled_in : (i : ℕ) (k : ℕ × ClientState) → slice_get known i ≡ Some k → IsSettledIn epoch opens k.0 k.1
    settled_in i k at =
        let there = in_map known known_rise i k.0 k.1 at in
        record {
          fits = is.sessions k.0 k.1 there;
          standing = λ place c waits.
              let own = is.standing k.0 k.1 place c there waits in record {
                i = own.is_open.0;
                there = own.there;
                stands = own.is_open.1;
                at_place = own.at_place;
                waiter = own.waiter;
                waits = own.waits;
                client_is = own.client_is;
              };
        }

    differ : (one other : OpenPlace) → IsOpenIn s one → IsOpenIn s other → one.side ≢ other.side
        → one.place ≢ other.place
    differ one other first second sides same =
        sides (ap (λ (o : OpenPlace). o.side) (one_at s all_together one other first second same))

    calm : (queue : ℕ) → IsCalmQueue opens queue
    calm queue gives takes =
        let first : IsOpenIn s gives.there = (gives.i, gives.stands) in
        let second : IsOpenIn s takes.there = (takes.i, takes.stands) in
        is.apart gives.there takes.there first second
        (differ gives.there takes.there first second (λ same. sides (sym gives.is ∙ same ∙ takes.is)))
        (ap opposite gives.is ∙ ap Some (sym takes.is))
      where
        sides : Gives queue ≡ Takes queue → ⊥
        sides same = cc

    calm_there : (exchanger : ℕ) → IsCalmExchanger opens exchanger
    calm_there exchanger = elim (cases_lt 1 (length (filter test opens))) [
      | inr few ↦ few
      | inl more ↦
          let one = there_is (filter test opens) 0 (omega (arith, more)) in
          let other = there_is (filter test opens) 1 more in
          let order = filter_order test opens one.0 other.0 0 1 (omega arith) one.1 other.1 in
          let up : one.0.place < other.0.place = is.rise order.0 order.1 one.0 other.0 order.2 order.3 order.4
          in
          let own = filter_get test opens 0 one.0 one.1 in
          let its = filter_get test opens 1 other.0 other.1 in
          absurd (is.apart one.0 other.0 (own.0, own.1) (its.0, its.1)
          (λ same. let no : ⊥ = omega (arith, up, same) in no)
          (ap opposite (same_side_is one.0.side (Exchanges exchanger) own.2)
          ∙ ap Some (sym (same_side_is other.0.side (Exchanges exchanger) its.2))))
    ]
      where
        test : OpenPlace → Bool
        test o = same_side o.side (Exchanges exchanger)

    pub resume_passes : PassesAll epoch moment count opens known
    resume_passes = record {
      room = record {
        time = is.room.time;
        space = is.room.space;
        clients = subst (λ n. n ≤ 100000) (map_long known known_rise) is.room.clients;
        places = is.room.places;
      };
      identifier = is.epoch;
      rise = is.rise;
      stand = all_by (StandsWell epoch moment count known) opens (λ i there at. record {
        below = is.below there (i, at);
        awaited = λ w waits. last_among there w (i, at) waits;
        began = λ w waits. is.began there w (i, at) waits;
        lies = is.lies there (i, at);
        undue = λ limit has. is.undue there limit (i, at) has;
      });
      settled = all_by (λ (k : ℕ × ClientState). IsSettledIn epoch opens k.0 k.1) known settled_in;
      queues = λ queue few. calm queue;
      exchangers = λ exchanger few. calm_there exchanger;
    }
