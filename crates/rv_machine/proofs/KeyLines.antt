-- The lines for a key, by what stands of it in the table of clients.
use Rattle.std.proofs.Common.{◌≡◌, ◌≢◌, ◌<◌, ◌≤◌, ◌+◌, ◌⊎◌, ◌∙◌, ℕ, Option, Some, None, inl, inr}
use Rattle.std.proofs.Common.{refl, sym, ap, subst, arith}
use Rattle.std.specs.Prelude.{option_and_then}
use Rattle.std.specs.FinMap.{get}
use Rattle.rv_text.specs.declared.message.Key.{Key}
use Rattle.rv_text.specs.declared.answer.Refusal.{Refusal}
use Rattle.rv_text.specs.declared.answer.Refusal as refusal
use Rattle.rv_text.specs.declared.answer.Refusal.TheVariants.{NoSession, OldIncarnation, OldNumber}
use Rattle.rv_text.specs.declared.answer.Refusal.TheVariants.{Busy, Gap, OtherEpoch}
use Rattle.rv_session.specs.declared.client.LastRequest.{LastRequest}
use Rattle.rv_session.specs.declared.client.LastRequest.TheVariants.{Fresh}
use Rattle.rv_session.specs.Clients.{ClientStates, place_awaited, place_waiting}
use Rattle.rv_session.specs.ClientMeanings.{AsksLast, AsksNext, AsksOldNumber}
use Rattle.rv_session.specs.ClientMeanings.{LacksState, RefusalSays}
use Rattle.rv_account.specs.state.State.{ClientState, State, client_at}
use Rattle.rv_account.specs.state.Moves.{EpochDiffers, IncarnationOld, NumberAbove, NumberIsLast, NumberOld}
use Rattle.rv_account.specs.state.Moves.{SessionBusy, SessionLacks, StateKeyLines}
use Rattle.rv_account.specs.state.Follows.{IsNewIncarnation, NumberIsNext}
use Rattle.rv_account.proofs.OfState.Words.{none-some, same_Some}
use Rattle.rv_machine.specs.Numbering.{AreNumbered}
use Rattle.rv_machine.specs.Machines.{state_in}
use Rattle.rv_machine.specs.declared.tables.Holdings.{Holdings}

-- ---- the lines that a session isn't met by

module _ (s : State) (key : Key) where
  epoch_fits : key.epoch ≡ s.epoch → (r : Refusal) → EpochDiffers s key r → ⊥
  epoch_fits same r due = due.0 same

  module _ (x : ClientState) (there : client_at s key.client ≡ Some x) where
    is_session : (y : ClientState) → client_at s key.client ≡ Some y → y ≡ x
    is_session y at = same_Some _ _ (sym at ∙ there)

    session_there : key.incarnation ≤ x.incarnation → (r : Refusal) → SessionLacks s key r → ⊥
    session_there least r due =
        let less : x.incarnation < key.incarnation = due.0 x there in
        omega arith

    not_old : x.incarnation ≤ key.incarnation → (r : Refusal)
        → IncarnationOld s key.client key.incarnation r → ⊥
    not_old most r due =
        let less : key.incarnation < x.incarnation =
        subst (λ (y : ClientState). key.incarnation < y.incarnation) (is_session due.session due.there)
        due.lower in
        omega arith

    not_below : x.last ≤ key.number → key.number ≢ 0 → (r : Refusal) → NumberOld s key r → ⊥
    not_below most some r due =
        let old : (key.number < x.last) ⊎ (key.number ≡ 0) =
        subst (λ (y : ClientState). (key.number < y.last) ⊎ (key.number ≡ 0))
        (is_session due.session due.there) due.old in
        elim old [ inl less ↦ omega arith | inr none ↦ some none ]

    not_last : x.last < key.number → NumberIsLast s key → ⊥
    not_last above at =
        let last : key.number ≡ x.last =
        subst (λ (y : ClientState). key.number ≡ y.last) (is_session at.session at.there) at.last in
        omega arith

    not_busy : place_waiting x.request ≡ None → (r : Refusal) → SessionBusy s key r → ⊥
    not_busy idle r due =
        none-some due.place
        (sym idle
        ∙ subst (λ (y : ClientState). place_waiting y.request ≡ Some due.place)
        (is_session due.session due.there) due.waits)

    not_above : key.number ≤ x.last + 1 → (r : Refusal) → NumberAbove s key r → ⊥
    not_above most r due =
        let above : x.last + 1 < key.number =
        subst (λ (y : ClientState). y.last + 1 < key.number) (is_session due.session due.there) due.above in
        omega arith

-- ---- the lines for a key

module _ (s : State) (key : Key) (refuses : Refusal → Type 0) (at_last above : Type 0) where
  -- by what stands on its own, which is refused
  epoch_refused : key.epoch ≢ s.epoch → refuses (OtherEpoch s.epoch)
      → StateKeyLines s key refuses at_last above
  epoch_refused differs r = inl (record { refusal = _; is_due = (differs, refl); refuses_it = r })

  session_lacks : key.epoch ≡ s.epoch → IsNewIncarnation s key.client key.incarnation → refuses NoSession
      → StateKeyLines s key refuses at_last above
  session_lacks epoch is_new r = inr (
    epoch_fits s key epoch,
    inl (record { refusal = _; is_due = (is_new, refl); refuses_it = r }),
  )

  module _ (x : ClientState) (epoch : key.epoch ≡ s.epoch) (there : client_at s key.client ≡ Some x) where
    incarnation_refused : key.incarnation < x.incarnation → refuses (OldIncarnation x.incarnation)
        → StateKeyLines s key refuses at_last above
    incarnation_refused less r = inr (
      epoch_fits s key epoch,
      inr (
        session_there s key x there (omega arith),
        inl (record {
          refusal = _;
          is_due = record { session = x; there = there; lower = less; is = refl };
          refuses_it = r;
        }),
      ),
    )

    module _ (same : x.incarnation ≡ key.incarnation) where
      number_refused : (key.number < x.last) ⊎ (key.number ≡ 0) → refuses (OldNumber x.last)
          → StateKeyLines s key refuses at_last above
      number_refused old r = inr (
        epoch_fits s key epoch,
        inr (
          session_there s key x there (omega arith),
          inr (
            not_old s key x there (omega arith),
            inl (record {
              refusal = _;
              is_due = record { session = x; there = there; old = old; is = refl };
              refuses_it = r;
            }),
          ),
        ),
      )

      last_lines : key.number ≡ x.last → key.number ≢ 0 → at_last → StateKeyLines s key refuses at_last above
      last_lines last some then = inr (
        epoch_fits s key epoch,
        inr (
          session_there s key x there (omega arith),
          inr (
            not_old s key x there (omega arith),
            inr (
              not_below s key x there (omega arith) some,
              inl (record { session = x; there = there; last = last }, then),
            ),
          ),
        ),
      )

      busy_refused : (place : ℕ) → x.last < key.number → place_waiting x.request ≡ Some place
          → refuses (Busy x.last) → StateKeyLines s key refuses at_last above
      busy_refused place less waits r = inr (
        epoch_fits s key epoch,
        inr (
          session_there s key x there (omega arith),
          inr (
            not_old s key x there (omega arith),
            inr (
              not_below s key x there (omega arith) (λ none. omega arith),
              inr (
                not_last s key x there less,
                inl (record {
                  refusal = _;
                  is_due = record { session = x; there = there; place = place; waits = waits; is = refl };
                  refuses_it = r;
                }),
              ),
            ),
          ),
        ),
      )

      gap_refused : x.last + 1 < key.number → place_waiting x.request ≡ None
          → refuses (Gap x.last) → StateKeyLines s key refuses at_last above
      gap_refused beyond idle r = inr (
        epoch_fits s key epoch,
        inr (
          session_there s key x there (omega arith),
          inr (
            not_old s key x there (omega arith),
            inr (
              not_below s key x there (omega arith) (λ none. omega arith),
              inr (
                not_last s key x there (omega arith),
                inr (
                  not_busy s key x there idle,
                  inl (record {
                    refusal = _;
                    is_due = record { session = x; there = there; above = beyond; is = refl };
                    refuses_it = r;
                  }),
                ),
              ),
            ),
          ),
        ),
      )

      next_lines : key.number ≡ x.last + 1 → place_waiting x.request ≡ None → above
          → StateKeyLines s key refuses at_last above
      next_lines next idle then = inr (
        epoch_fits s key epoch,
        inr (
          session_there s key x there (omega arith),
          inr (
            not_old s key x there (omega arith),
            inr (
              not_below s key x there (omega arith) (λ none. omega arith),
              inr (
                not_last s key x there (omega arith),
                inr (
                  not_busy s key x there idle,
                  inr (not_above s key x there (omega arith), then),
                ),
              ),
            ),
          ),
        ),
      )

-- ---- by what stands of the key

-- where the last request of the key's client waits
pub awaited_there : (t : ClientStates) (client : ℕ) (x : ClientState) (o : Option ℕ)
    → get t.clients client ≡ Some x
    → place_awaited t.clients client ≡ o → place_waiting x.request ≡ o
awaited_there t client x o there waits =
    sym (ap (option_and_then (λ (c : ClientState). place_waiting c.request)) there) ∙ waits

module _ (m : Holdings) (key : Key) (refuses : Refusal → Type 0) (at_last above : Type 0)
    (numbered : AreNumbered (state_in m)) where
  lacking : (refuses NoSession) → LacksState m.clients key
      → StateKeyLines (state_in m) key refuses at_last above
  lacking r says =
      session_lacks (state_in m) key refuses at_last above says.epoch
      (λ x at. elim says.lacks [
        | inl none ↦ absurd (none-some x (sym none ∙ at))
        | inr some ↦ subst (λ (y : ClientState). y.incarnation < key.incarnation)
            (same_Some _ _ (sym some.1 ∙ at)) some.2
      ]) r

  old_number : (last : ℕ) → refuses (OldNumber last) → AsksOldNumber m.clients key last
      → StateKeyLines (state_in m) key refuses at_last above
  old_number last r says =
      let x : ClientState = says.state in
      let old : (key.number < x.last) ⊎ (key.number ≡ 0) = elim says.old [
        | inl less ↦ inl (subst (λ n. key.number < n) says.last_is less)
        | inr fresh ↦ inr (fresh.0 ∙ says.last_is
            ∙ (numbered key.client x says.of_key.there).zero fresh.1)
      ] in
      number_refused (state_in m) key refuses at_last above x says.of_key.epoch says.of_key.there
      says.of_key.incarnation old (subst (λ n. refuses (OldNumber n)) says.last_is r)

  -- the refusal that the table gives is that of the first line that is due
  pub key_refused : (r : Refusal) → RefusalSays m.clients key r → refuses r
      → StateKeyLines (state_in m) key refuses at_last above
  key_refused (OtherEpoch current) says r =
      epoch_refused (state_in m) key refuses at_last above
      (λ same. says.0 (same ∙ sym says.1)) (subst (λ n. refuses (OtherEpoch n)) says.1 r)
  key_refused NoSession says r = lacking r says
  key_refused (OldIncarnation current) says r =
      incarnation_refused (state_in m) key refuses at_last above says.state says.of_key.epoch
      says.of_key.there
      (subst (λ n. key.incarnation < n) says.current_is says.greater)
      (subst (λ n. refuses (OldIncarnation n)) says.current_is r)
  key_refused (OldNumber last) says r = old_number last r says
  key_refused (Busy last) says r =
      busy_refused (state_in m) key refuses at_last above says.state says.of_key.epoch says.of_key.there
      says.of_key.incarnation says.place (subst (λ n. n < key.number) says.last_is says.above)
      (awaited_there m.clients key.client says.state (Some says.place) says.of_key.there says.waits)
      (subst (λ n. refuses (Busy n)) says.last_is r)
  key_refused (Gap last) says r =
      gap_refused (state_in m) key refuses at_last above says.state says.of_key.epoch says.of_key.there
      says.of_key.incarnation (subst (λ n. n + 1 < key.number) says.last_is says.above)
      (awaited_there m.clients key.client says.state None says.of_key.there says.idle)
      (subst (λ n. refuses (Gap n)) says.last_is r)
  key_refused refusal.TheVariants.BadText says r = absurd says
  key_refused refusal.TheVariants.OtherCall says r = absurd says
  key_refused refusal.TheVariants.ClientsFull says r = absurd says
  key_refused refusal.TheVariants.EpochFull says r = absurd says
  key_refused refusal.TheVariants.NoMemory says r = absurd says
  key_refused (refusal.TheVariants.OtherVersion current) says r = absurd says

  -- the last number of a session that asked something
  pub key_last : (request : LastRequest) → request ≢ Fresh → AsksLast m.clients key request → at_last
      → StateKeyLines (state_in m) key refuses at_last above
  key_last request asked says then =
      last_lines (state_in m) key refuses at_last above says.state says.of_key.epoch says.of_key.there
      says.of_key.incarnation says.number
      (λ none. asked (sym says.request_is
      ∙ (numbered key.client says.state says.of_key.there).unasked (sym says.number ∙ none)))
      then

  -- the next number, where nothing waits
  pub key_next : AsksNext m.clients key → above → StateKeyLines (state_in m) key refuses at_last above
  key_next says then =
      next_lines (state_in m) key refuses at_last above says.state says.of_key.epoch says.of_key.there
      says.of_key.incarnation says.number
      (awaited_there m.clients key.client says.state None says.of_key.there says.idle) then

-- the next number of the table is that of the state
pub number_next : (m : Holdings) (key : Key) → AsksNext m.clients key → NumberIsNext (state_in m) key
number_next m key says = record {
  session = says.state;
  of_session = record {
    epoch = says.of_key.epoch;
    there = says.of_key.there;
    incarnation = says.of_key.incarnation;
  };
  next = says.number;
  idle = awaited_there m.clients key.client says.state None says.of_key.there says.idle;
}
