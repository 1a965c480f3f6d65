-- What a table of clients says of a key, it says for the reason that its meaning names.
use Rattle.std.proofs.Common.{◌≡◌, inl, inr, ℕ, ◌<◌, ◌==◌, ◌+◌, [], ◌∷◌, true, false}
use Rattle.std.proofs.Common.{Option, Some, None, is_some, option_and_then, nat_lt, refl, ap, ◌∙◌, arith}
use Rattle.std.specs.FinMap.{get}
use Rattle.rv_text.specs.declared.message.Key.{Key}
use Rattle.rv_text.specs.declared.answer.Refusal.TheVariants.{OldNumber, Busy, Gap}
use Rattle.rv_session.specs.declared.client.ClientState.{ClientState}
use Rattle.rv_session.specs.declared.client.LastRequest.{LastRequest}
use Rattle.rv_session.specs.declared.client.LastRequest.TheVariants.{Fresh, Waits, RepliedTo, CancelledUnseen}
use Rattle.rv_session.specs.Standings.{first_that_holds}
use Rattle.rv_session.specs.Clients.{ClientStates, place_waiting}
use Rattle.rv_session.specs.ClientStandings.{IsRefused, IsNext, last_standing, client_standing}
use Rattle.rv_session.specs.ClientMeanings.{IsOfState, StandingSays}
use Rattle.rv_session.proofs.Meaning.{by_line, less, not_less, same, not_same, some_of, none_of}

last_standing_says : (t : ClientStates) (key : Key) (s : ClientState) (request : LastRequest)
    → IsOfState t key s
    → key.number ≡ s.last → s.request ≡ request
    → StandingSays t key (last_standing s.last request)
last_standing_says t key s Fresh of_key number is = record {
  state = s;
  of_key = of_key;
  last_is = refl;
  old = inr (number, is);
}
last_standing_says t key s (Waits place call) of_key number is = record {
  state = s;
  of_key = of_key;
  number = number;
  request_is = is;
}
last_standing_says t key s (RepliedTo call reply) of_key number is = record {
  state = s;
  of_key = of_key;
  number = number;
  request_is = is;
}
last_standing_says t key s CancelledUnseen of_key number is = record {
  state = s;
  of_key = of_key;
  number = number;
  request_is = is;
}

where_waiting : (o : Option ClientState) (s : ClientState) → o ≡ Some s
    → is_some (place_waiting s.request) ≡ true
    → (place : ℕ) × (option_and_then (λ (x : ClientState). place_waiting x.request) o ≡ Some place)
where_waiting o s there waits =
    let at = some_of (place_waiting s.request) waits in
    (at.0, ap (option_and_then (λ (x : ClientState). place_waiting x.request)) there ∙ at.1)

where_idle : (o : Option ClientState) (s : ClientState) → o ≡ Some s
    → is_some (place_waiting s.request) ≡ false
    → option_and_then (λ (x : ClientState). place_waiting x.request) o ≡ None
where_idle o s there idle = ap (option_and_then (λ (x : ClientState). place_waiting x.request)) there
    ∙ none_of (place_waiting s.request) idle

-- the lines for a key of the session's incarnation
number_says : (t : ClientStates) (key : Key) (s : ClientState) → IsOfState t key s
    → StandingSays t key (first_that_holds
    ((nat_lt key.number s.last, IsRefused (OldNumber s.last))
    ∷ (key.number == s.last, last_standing s.last s.request)
    ∷ (is_some (place_waiting s.request), IsRefused (Busy s.last))
    ∷ (nat_lt (s.last + 1) key.number, IsRefused (Gap s.last))
    ∷ []) IsNext)
number_says t key s of_key =
    by_line (StandingSays t key) (nat_lt key.number s.last) _ _
    (λ below. record {
      state = s;
      of_key = of_key;
      last_is = refl;
      old = inl (less key.number s.last below);
    })
    (λ not_below. by_line (StandingSays t key) (key.number == s.last) _ _
    (λ is. last_standing_says t key s s.request of_key (same key.number s.last is) refl)
    (λ apart.
    let above : s.last < key.number = omega (
      arith,
      not_less key.number s.last not_below,
      not_same key.number
          s.last apart,
    ) in
    by_line (StandingSays t key) (is_some (place_waiting s.request)) _ _
    (λ waits.
    let at = where_waiting (get t.clients key.client) s of_key.there waits in
    record { state = s; of_key = of_key; last_is = refl; above = above; place = at.0; waits = at.1 })
    (λ idle. by_line (StandingSays t key) (nat_lt (s.last + 1) key.number) _ _
    (λ gap. record {
      state = s;
      of_key = of_key;
      last_is = refl;
      above = less (s.last + 1) key.number gap;
      idle = where_idle (get t.clients key.client) s of_key.there idle;
    })
    (λ next. record {
      state = s;
      of_key = of_key;
      number = omega (arith, not_less (s.last + 1) key.number next);
      idle = where_idle (get t.clients key.client) s of_key.there idle;
    }))))

pub client_standing_says : (t : ClientStates) (key : Key) (s : ClientState) → key.epoch ≡ t.epoch
    → get t.clients key.client ≡ Some s → StandingSays t key (client_standing s key)
client_standing_says t key s epoch there =
    by_line (StandingSays t key) (nat_lt s.incarnation key.incarnation) _ _
    (λ lower. record { epoch = epoch; lacks = inr (s, there, less s.incarnation key.incarnation lower) })
    (λ not_lower. by_line (StandingSays t key) (nat_lt key.incarnation s.incarnation) _ _
    (λ greater. record {
      state = s;
      of_key = record { epoch = epoch; there = there };
      current_is = refl;
      greater = less key.incarnation s.incarnation greater;
    })
    (λ not_greater.
    let same_incarnation : s.incarnation ≡ key.incarnation =
    omega (
      arith,
      not_less s.incarnation key.incarnation not_lower,
      not_less key.incarnation s.incarnation
          not_greater,
    ) in
    number_says t key s (record { epoch = epoch; there = there; incarnation = same_incarnation })))
