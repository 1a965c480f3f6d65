-- Whom an arrival meets by the state it names, and they are open arrivals of the other side.
use Rattle.rv_account.proofs.OfState.Words.{◌≡◌, ◌∙◌, ℕ, List, length, Option, Some, None, option_and_then}
use Rattle.rv_account.proofs.OfState.Words.{sym, ap}
use Rattle.rv_account.proofs.OfState.Words.{slice_get, none-some, same_Some, Key, Call, Side, side_of}
use Rattle.rv_account.proofs.OfState.Words.{Arrive, Entry}
use Rattle.rv_account.proofs.OfState.Words.{Account, Names, call_in, may_name, opposite, Open, call_read}
use Rattle.rv_account.proofs.OfState.Words.{get-append_end, OpenPlace, State, line_of, place_list}
use Rattle.rv_account.proofs.OfState.Words.{same_side, met_by}
use Rattle.rv_account.proofs.OfState.Words.{partners_of, IsArrival}
use Rattle.rv_account.specs.rules.Waiting.{NamesPartner}
use Rattle.rv_account.proofs.OfRules.Growing.{NamesAt-last}
use Rattle.rv_account.specs.state.State.{opposites}
use Rattle.rv_account.proofs.OfState.Coming.{Comes, more}
use Rattle.rv_account.proofs.OfState.Filtered.{filter_get, get_map, take_get}
use Rattle.rv_account.proofs.OfState.SideLines.{stands_open}

-- an open arrival of the other side, which the entry names
pub record IsMet (a : Account) (e : Entry) (call : Call) (there : OpenPlace) : Type 0 where
  pub arrival : IsArrival a.entries there
  pub is_open : Open a.entries there.place
  pub named : Names e there.place
  pub names : NamesPartner (more a e) (length a.entries) there.place
  pub opposes : opposite (side_of call) ≡ Some (side_of arrival.call)

-- what stands in a line stands among the open places
pub line_of_there : (s : State) (side : Option Side) (i : ℕ) (there : OpenPlace)
    → slice_get (line_of s side) i ≡ Some there → (j : ℕ) × (slice_get s.open_places j ≡ Some there)
line_of_there s None i there at = absurd (none-some there at)
line_of_there s (Some side) i there at =
    let found = filter_get (λ (o : OpenPlace). same_side o.side side) s.open_places i there at in
    (found.0, found.1)

pub met_there : (s : State) (call : Call) (i : ℕ) (there : OpenPlace)
    → slice_get (met_by s call) i ≡ Some there → (j : ℕ) × (slice_get s.open_places j ≡ Some there)
met_there s call i there at =
    line_of_there s (opposite (side_of call)) i there (take_get (opposites s call) (may_name call) i there at)

module _ (a : Account) (s : State) (e : Entry) (key : Key) (call : Call) (comes : Comes a s e)
    (arrives : e.act ≡ Arrive key call) where
  pub partners_are : e.partners ≡ place_list (met_by s call)
  partners_are = comes.partners ∙ ap (partners_of s) arrives

  pub is_met : (i : ℕ) (there : OpenPlace) → slice_get (met_by s call) i ≡ Some there → IsMet a e call there
  is_met i there at =
      let p : ℕ = there.place in
      let stands = met_there s call i there at in
      let arrival : IsArrival a.entries there = comes.state.arrivals stands.0 there stands.1 in
      let named : Names e p = (
        i,
        ap (λ (l : List ℕ). slice_get l i) partners_are
            ∙ get_map (λ (o : OpenPlace). o.place) (met_by s call) i there at,
      ) in
      let free = comes.follows.pairs.names_free_partners.free p named in
      let calls : call_in e.act ≡ Some call = ap call_in arrives in
      let own : free.call ≡ call = same_Some _ _ (sym free.arrives ∙ calls) in
      let partner = comes.follows.pairs.pairs_opposites p free.call named free.arrives free.meets in
      let there_is : partner.there.of_side.call ≡ arrival.call =
      same_Some _ _ (sym partner.there.of_side.arrived ∙ ap (option_and_then call_in) arrival.arrived) in
      record {
        arrival = arrival;
        is_open = stands_open a s comes.state stands.0 there stands.1;
        named = named;
        names = record {
          call = free.call;
          arrived = ap call_read (get-append_end a.entries e) ∙ free.arrives;
          meets = free.meets;
          named = NamesAt-last a.entries e p named;
        };
        opposes = ap (λ c. opposite (side_of c)) (sym own) ∙ partner.opposes
            ∙ ap Some (sym partner.there.of_side.is ∙ ap side_of there_is);
      }
