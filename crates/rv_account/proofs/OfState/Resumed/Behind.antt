-- After an entry what is open came no later than its moment, and nothing is due then.
use Rattle.std.proofs.Common.{◌≡◌, ◌≢◌, ◌<◌, ◌≤◌, ◌∷◌, ◌∙◌, [], ℕ, List, Bool, true, false, cond}
use Rattle.std.proofs.Common.{Option, Some, None}
use Rattle.std.proofs.Common.{inl, inr, not, refl, sym, ap, subst, arith, slice_get, nat_eq}
use Rattle.std.specs.List.{list_any}
use Rattle.rv_text.specs.declared.call.Call.{Call}
use Rattle.rv_text.specs.declared.message.Key.{Key}
use Rattle.rv_text.specs.Calls.{wait_of}
use Rattle.rv_session.specs.declared.client.LastRequest.{LastRequest}
use Rattle.rv_account.specs.Calls.{Stays}
use Rattle.rv_account.specs.declared.entry.Act.{Act}
use Rattle.rv_account.specs.declared.entry.Act.TheVariants.{Arrive, Cancel, Hello, Tick}
use Rattle.rv_account.specs.state.After.{advanced, but, cancelled, closed, due_at, following, just_open}
use Rattle.rv_account.specs.state.After.{met_by}
use Rattle.rv_account.specs.state.After.{opened_by}
use Rattle.rv_account.specs.state.After.{parked, request_after, settled_all, stays_open, told_own}
use Rattle.rv_account.specs.state.After.{told_partner}
use Rattle.rv_account.specs.state.After.{with_last, with_open}
use Rattle.rv_account.specs.state.State.{ClientState, OpenPlace, State, Waiter, client_at, client_waits}
use Rattle.rv_account.specs.state.Follows.{MomentFits}
use Rattle.rv_account.proofs.OfState.Words.{none-some}
use Rattle.rv_account.proofs.OfState.Filtered.{append_get, filter_get, get_any}
use Rattle.std.proofs.lemmas.Bool.{eq-eqb, true≢false}
use Rattle.rv_account.specs.state.resume.Resuming.{CanResume, IsOpenIn}
use Rattle.rv_account.proofs.OfState.Resumed.Moments.{none_due_at, undue_past}
use Rattle.rv_account.proofs.OfState.Resumed.Opening.{limit_behind, one_of_one, stays_by, waiter_is}

-- what waits there came no later, and its limit is later
pub record IsInTime (moment : ℕ) (there : OpenPlace) : Type 0 where
  pub began : (w : Waiter) → there.waiter ≡ Some w → w.since ≤ moment
  pub undue : (limit : ℕ) → there.limit ≡ Some limit → moment < limit

abbrev pub AreInTime : State → Type 0
AreInTime s = (there : OpenPlace) → IsOpenIn s there → IsInTime s.moment there

opens_asked : (s : State) (key : Key) (request : LastRequest) (o : Option ClientState)
    → (with_last s key request o).open_places ≡ s.open_places
opens_asked s key request None = refl
opens_asked s key request (Some session) = refl

-- what is left is none of those that are gone
left_in : (all gone : List OpenPlace) (there : OpenPlace)
    → (j : ℕ) × (slice_get (but all gone) j ≡ Some there)
    → ((i : ℕ) × (slice_get all i ≡ Some there))
    × ((i : ℕ) (o : OpenPlace) → slice_get gone i ≡ Some o → o.place ≢ there.place)
left_in all gone there at =
    let found = filter_get (λ (o : OpenPlace). not (list_any (λ (other : OpenPlace). nat_eq other.place
    o.place)
    gone)) all at.0 there at.1 in (
      (found.0, found.1),
      λ i o stands same. true≢false (sym found.2 ∙ ap not (get_any (λ (other : OpenPlace).
          nat_eq other.place there.place) gone i o stands (eq-eqb o.place there.place same))),
    )

module _ (s : State) (is : CanResume s) (moment : ℕ) (not_before : s.moment ≤ moment) where
  -- what was open and isn't due
  old_in_time : (there : OpenPlace) → IsOpenIn s there
      → ((i : ℕ) (o : OpenPlace) → slice_get (due_at s moment) i ≡ Some o → o.place ≢ there.place)
      → IsInTime moment there
  old_in_time there at apart = record {
    began = λ w has. let before = is.began there w at has in omega (arith, before, not_before);
    undue = λ limit has. undue_past s moment there limit at has apart;
  }

  -- those that are left of what was open
  left_in_time : (gone : List OpenPlace) → due_at s moment ≡ [] → (there : OpenPlace)
      → (j : ℕ) × (slice_get (but s.open_places gone) j ≡ Some there) → IsInTime moment there
  left_in_time gone none there at =
      old_in_time there (left_in s.open_places gone there at).0 (none_due_at s moment there.place none)

  new_in_time : (key : Key) (c : Call) → Stays c → IsInTime moment (opened_by s moment key c)
  new_in_time key c stays = record {
    began = λ w has. subst (λ (v : Waiter). v.since ≤ moment) (sym (waiter_is key moment (wait_of c) w has))
        (omega arith);
    undue = λ limit has. limit_behind moment limit c stays has;
  }

  ticked_in_time : AreInTime (following s moment Tick).after
  ticked_in_time there at =
      let left = left_in s.open_places (due_at s moment) there at in old_in_time there left.0 left.1

  cancelled_in_time : (key : Key) → due_at s moment ≡ [] → (o : Option OpenPlace)
      → AreInTime (advanced (cancelled s key o).after moment)
  cancelled_in_time key none (Some one) there at = left_in_time (one ∷ []) none there at
  cancelled_in_time key none None there at =
      old_in_time there (
        at.0,
        ap (λ (l : List OpenPlace). slice_get l at.0)
            (sym (opens_asked s key _ (client_at s key.client))) ∙ at.1,
      ) (none_due_at s moment there.place none)

  opened_in_time : (key : Key) (c : Call) (met : List OpenPlace) → (b : Bool) → stays_open c met ≡ b
      → (there : OpenPlace) → (j : ℕ) × (slice_get (cond b (opened_by s moment key c ∷ []) []) j ≡ Some there)
      → IsInTime moment there
  opened_in_time key c met false goes there at = absurd (none-some there at.1)
  opened_in_time key c met true stays there at =
      subst (IsInTime moment) (one_of_one (opened_by s moment key c) there at)
      (new_in_time key c (stays_by c met stays))

  arrived_in_time : (key : Key) (c : Call) → due_at s moment ≡ []
      → AreInTime (following s moment (Arrive key c)).after
  arrived_in_time key c none there at =
      let met = met_by s c in
      let opens : State = with_open (closed s met (settled_all (told_partner s key c) met))
      (parked s moment key c met)
      in
      let found = append_get (but s.open_places met) (parked s moment key c met) at.0 there
      (ap (λ (l : List OpenPlace). slice_get l at.0)
      (sym (opens_asked opens key (request_after s.length c (told_own s key c met))
      (client_at opens key.client)))
      ∙ at.1) in
      elim found [
        | inl old ↦ left_in_time met none there old
        | inr new ↦ opened_in_time key c met (stays_open c met) refl there new
      ]

pub entry_in_time : (s : State) → CanResume s → (moment : ℕ) (does : Act) → MomentFits s moment does
    → AreInTime (following s moment does).after
entry_in_time s is moment (Hello client incarnation version) fits =
    left_in_time s is moment fits.not_before (just_open (client_waits s client)) fits.due
entry_in_time s is moment (Arrive key c) fits = arrived_in_time s is moment fits.not_before key c fits.due
entry_in_time s is moment (Cancel key) fits =
    cancelled_in_time s is moment fits.not_before key fits.due (client_waits s key.client)
entry_in_time s is moment Tick fits = ticked_in_time s is moment fits.not_before
