-- What an arrival tells those whom it meets and who waited: their replies; and each is told something.
use Rattle.rv_account.proofs.OfState.Words.{◌≡◌, ◌∷◌, ◌∙◌, inl, inr, ℕ, List, [], length, Option, Some, None}
use Rattle.rv_account.proofs.OfState.Words.{option_and_then, refl, sym, ap, subst, same_Some, Key, Version}
use Rattle.rv_account.proofs.OfState.Words.{Call, Reply}
use Rattle.rv_account.proofs.OfState.Words.{drains_of, item_of, side_of, Entry, Arrive, Account, call_in}
use Rattle.rv_account.proofs.OfState.Words.{key_in, Stays}
use Rattle.rv_account.proofs.OfState.Words.{opposite, GetsItem, MeetsKey, RepliesAt, AskedIn, Met}
use Rattle.rv_account.proofs.OfState.Words.{call_read, key_read}
use Rattle.rv_account.proofs.OfState.Words.{get-append_end, ClientState, OpenPlace, State, client_at}
use Rattle.rv_account.proofs.OfState.Words.{told_met}
use Rattle.rv_account.proofs.OfState.Words.{session_version, WaitsThere}
use Rattle.rv_account.proofs.OfRules.Opposites.{opposite_back}
use Rattle.rv_account.proofs.OfRules.Versions.{asked_on, waiting_asked}
use Rattle.rv_account.specs.state.State.{call_waiting}
use Rattle.rv_account.specs.state.After.{told_partner}
use Rattle.rv_account.proofs.OfState.Coming.{Comes, more}
use Rattle.rv_account.proofs.OfState.KnownClients.{found_client}
use Rattle.rv_account.proofs.OfState.Filtered.{mapped_there}
use Rattle.rv_account.proofs.OfState.MetPlaces.{IsMet}
use Rattle.rv_account.proofs.OfState.MetReplies.{met_replies, met_told}
use Rattle.rv_account.proofs.OfState.Sessions.{WaitsInState, waits_in_state}
use Rattle.rv_account.proofs.OfState.WaitQueuesThere.{same_call_at, waits_by}
use Rattle.rv_text.specs.declared.call.Call.TheVariants as call

-- what stays is no drain
staying_drains_not : (its : Call) → Stays its → drains_of its ≡ None
staying_drains_not (call.Drain queue max) stays = absurd stays.1
staying_drains_not _ stays = refl

module _ (a : Account) (s : State) (e : Entry) (key : Key) (its : Call) (comes : Comes a s e)
    (arrives : e.act ≡ Arrive key its) (there : OpenPlace) (met : IsMet a e its there) (waits : Key)
    (theirs : Call) (waited : WaitsThere a.entries waits there.place theirs) where
  abbrev es : List Entry
  es = more a e

  in_state : WaitsInState a s waits there.place
  in_state = waits_in_state a s waits theirs there.place comes.legal comes.state waited.arrived waited.waits

  -- the state has the call of who waits
  partner_told : told_partner s key its there waits ≡ told_met s waits theirs (Some key) (item_of its)
  partner_told =
      let same : in_state.call ≡ theirs =
      same_call_at a.entries there.place waits waits in_state.call theirs in_state.arrived waited.arrived in
      let calls : call_waiting in_state.session.request ≡ Some theirs =
      ap call_waiting in_state.request ∙ ap Some same in
      let asks = λ (o : Option Call).
      option_and_then (λ (c : Call). told_met s waits c (Some key) (item_of its)) o in
      ap asks (ap (option_and_then (λ (c : ClientState). call_waiting c.request)) in_state.there ∙ calls)

  met_now : Met es there.place
  met_now = record { later = length a.entries; earlier = there.place; names = met.names; part = inr refl }

  asked : (version : Version) → session_version s waits ≡ Some version → AskedIn es there.place version
  asked version is =
      let by = mapped_there (λ (c : ClientState). c.version) (client_at s waits.client) version is in
      let client = found_client a waits.client (client_at s waits.client) by.0
      (comes.state.clients waits.client) by.1 in
      let was = waiting_asked a there.place waits theirs by.0.incarnation by.0.version waited.waits
      waited.arrived client.opened in
      subst (AskedIn es there.place) by.2 (asked_on a.entries (e ∷ []) there.place by.0.version was)

  meets : (taker : Key) → Some key ≡ Some taker → MeetsKey es there.place taker
  meets taker is = record {
    place = length a.entries;
    meet = inr met.names;
    named = ap key_read (get-append_end a.entries e) ∙ ap key_in arrives ∙ is;
  }

  given : (item : List ℕ) → item_of its ≡ Some item → GetsItem es there.place item
  given item is = record {
    giver = length a.entries;
    call = its;
    meet = inl met.names;
    arrived = ap call_read (get-append_end a.entries e) ∙ ap call_in arrives;
    hands_over = is;
  }

  pub partner_replies : (told : Reply) → told_partner s key its there waits ≡ Some told
      → RepliesAt es there.place theirs told
  partner_replies told is =
      met_replies es there.place s waits (Some key) (item_of its) told met_now asked meets given theirs
      (sym partner_told ∙ is)

  pub partner_has : (told : Reply) × (told_partner s key its there waits ≡ Some told)
  partner_has =
      let wait = waits_by a.entries waits there.place theirs waited in
      let opened = waited.waits.is_open in
      let same : opened.call ≡ theirs =
      same_Some _ _ (sym opened.arrived ∙ ap (option_and_then call_in) waited.arrived) in
      let own : met.arrival.call ≡ theirs =
      same_call_at a.entries there.place met.arrival.key waits met.arrival.call theirs met.arrival.arrived
      waited.arrived in
      let opposes : opposite (side_of theirs) ≡ Some (side_of its) =
      opposite_back (side_of its) (side_of theirs) (met.opposes ∙ ap (λ c. Some (side_of c)) own) in
      let drains_not = staying_drains_not theirs (subst Stays same opened.stays) in
      let told = met_told s waits its wait.0 (Some key) (item_of its) in_state.session in_state.there refl
      theirs wait.1 drains_not opposes (λ queue gives. (key, refl)) in
      (told.0, partner_told ∙ told.1)
