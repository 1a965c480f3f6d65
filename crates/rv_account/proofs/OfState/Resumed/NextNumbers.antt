-- A key that no refusal is due to has its session's next number.
use Rattle.std.proofs.Common.{◌≡◌, ◌⊎◌, ◌<◌, ◌+◌, ◌∙◌, ℕ, Option, Some, None, inl, inr, refl, sym}
use Rattle.std.proofs.Common.{subst}
use Rattle.std.proofs.Common.{arith}
use Rattle.std.proofs.lemmas.Bool.{cases_eq, cases_order}
use Rattle.rv_text.specs.declared.message.Key.{Key}
use Rattle.rv_text.specs.declared.answer.Refusal.{Refusal}
use Rattle.rv_text.specs.declared.answer.Refusal.TheVariants.{Busy, Gap, NoSession, OldIncarnation, OldNumber}
use Rattle.rv_text.specs.declared.answer.Refusal.TheVariants.{OtherEpoch}
use Rattle.rv_session.specs.Clients.{place_waiting}
use Rattle.rv_account.specs.state.Follows.{InSession, IsNewIncarnation, NumberIsNext}
use Rattle.rv_account.specs.state.Moves.{EpochDiffers, HasSessionOf, IncarnationOld, NumberAbove}
use Rattle.rv_account.specs.state.Moves.{NumberIsLast}
use Rattle.rv_account.specs.state.Moves.{NumberOld}
use Rattle.rv_account.specs.state.Moves.{SessionBusy, SessionLacks}
use Rattle.rv_account.specs.state.State.{ClientState, State, client_at}
use Rattle.rv_account.proofs.OfState.Words.{none-some, same_Some}

-- no refusal of this kind is due
abbrev pub NotDue : (Refusal → Type 0) → Type 0
NotDue due = (refusal : Refusal) → due refusal → ⊥

place_or_not : (o : Option ℕ) → (o ≡ None) ⊎ ((place : ℕ) × (o ≡ Some place))
place_or_not None = inl refl
place_or_not (Some place) = inr (place, refl)

module _ (s : State) (key : Key) (epoch : NotDue (EpochDiffers s key)) (lacks : NotDue (SessionLacks s key))
    (old : NotDue (IncarnationOld s key.client key.incarnation)) where
  same_epoch : key.epoch ≡ s.epoch
  same_epoch = elim (cases_eq key.epoch s.epoch) [
    | inl same ↦ same
    | inr apart ↦ absurd (epoch (OtherEpoch s.epoch) (apart, refl))
  ]

  same_incarnation : (x : ClientState) → client_at s key.client ≡ Some x → x.incarnation ≡ key.incarnation
  same_incarnation x known = elim (cases_order x.incarnation key.incarnation) [
    | inl same ↦ same
    | inr differ ↦ elim differ [
      | inl less ↦ absurd (lacks NoSession (
        (λ session there.
            subst (λ (c : ClientState). c.incarnation < key.incarnation) (same_Some _ _ (sym known ∙ there))
            less),
        refl,
      ))
      | inr more ↦ absurd (old (OldIncarnation x.incarnation)
          (record { session = x; there = known; lower = more; is = refl }))
    ]
  ]

  of_session : (o : Option ClientState) → client_at s key.client ≡ o → (x : ClientState) × InSession s key x
  of_session None none =
      absurd (lacks NoSession (
        (λ session there. absurd (none-some session (sym none ∙ there))),
        refl,
      ))
  of_session (Some x) known = (
    x,
    record { epoch = same_epoch; there = known; incarnation = same_incarnation x known },
  )

  module _ (number : NotDue (NumberOld s key)) (not_last : NumberIsLast s key → ⊥)
      (busy : NotDue (SessionBusy s key)) (above : NotDue (NumberAbove s key)) where
    next_number : (x : ClientState) → client_at s key.client ≡ Some x → key.number ≡ x.last + 1
    next_number x known = elim (cases_order key.number (x.last + 1)) [
      | inl same ↦ same
      | inr differ ↦ elim differ [
        | inl less ↦ elim (cases_order key.number x.last) [
          | inl last ↦ absurd (not_last (record { session = x; there = known; last = last }))
          | inr other ↦ elim other [
            | inl below ↦ absurd (number (OldNumber x.last)
                (record { session = x; there = known; old = inl below; is = refl }))
            | inr more ↦ absurd (let no : ⊥ = omega (arith, less, more) in no)
          ]
        ]
        | inr more ↦ absurd (above (Gap x.last)
            (record { session = x; there = known; above = more; is = refl }))
      ]
    ]

    idle : (x : ClientState) → client_at s key.client ≡ Some x → place_waiting x.request ≡ None
    idle x known = elim (place_or_not (place_waiting x.request)) [
      | inl none ↦ none
      | inr waits ↦ absurd (busy (Busy x.last)
          (record { session = x; there = known; place = waits.0; waits = waits.1; is = refl }))
    ]

    pub is_next : NumberIsNext s key
    is_next =
        let found = of_session (client_at s key.client) refl in
        record {
          session = found.0;
          of_session = found.1;
          next = next_number found.0 found.1.there;
          idle = idle found.0 found.1.there;
        }

-- a hello that isn't old and repeats none is of a new incarnation
pub is_new : (s : State) (client incarnation : ℕ) → NotDue (IncarnationOld s client incarnation)
    → (HasSessionOf s client incarnation → ⊥) → IsNewIncarnation s client incarnation
is_new s client incarnation old other x known = elim (cases_order x.incarnation incarnation) [
  | inl same ↦ absurd (other (record { session = x; there = known; same = same }))
  | inr differ ↦ elim differ [
    | inl less ↦ less
    | inr more ↦ absurd (old (OldIncarnation x.incarnation)
        (record { session = x; there = known; lower = more; is = refl }))
  ]
]
