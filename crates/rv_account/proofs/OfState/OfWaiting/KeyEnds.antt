-- What the lines for a key leave: it is its session's last one, or its next.
use Rattle.std.proofs.Common.{◌≡◌, ◌<◌, ◌∙◌, inl, inr, Some, refl, sym, subst}
use Rattle.std.proofs.lemmas.Bool.{cases_eq, cases_order}
use Rattle.rv_text.specs.declared.message.Key.{Key}
use Rattle.rv_text.specs.declared.answer.Refusal.TheVariants.{NoSession, OldIncarnation, OldNumber}
use Rattle.rv_text.specs.declared.answer.Refusal.TheVariants.{OtherEpoch}
use Rattle.rv_account.specs.state.Moves.{EpochDiffers, IncarnationOld, NumberIsLast, NumberOld, SessionLacks}
use Rattle.rv_account.specs.state.State.{ClientState, State, client_at}
use Rattle.rv_account.proofs.OfState.Words.{same_Some}
use Rattle.rv_account.proofs.OfState.Resumed.NextNumbers.{NotDue}
use Rattle.rv_account.proofs.OfState.OfWaiting.Told.{IsLastOf}

module _ (s : State) (key : Key) (epoch : NotDue (EpochDiffers s key)) (lacks : NotDue (SessionLacks s key))
    (old : NotDue (IncarnationOld s key.client key.incarnation)) where
  same_epoch : key.epoch ≡ s.epoch
  same_epoch = elim (cases_eq key.epoch s.epoch) [
    | inl same ↦ same
    | inr apart ↦ absurd (epoch (OtherEpoch s.epoch) (apart, refl))
  ]

  same_incarnation : (x : ClientState) → client_at s key.client ≡ Some x → x.incarnation ≡ key.incarnation
  same_incarnation x known = elim (cases_order x.incarnation key.incarnation) [
    | inl same ↦ same
    | inr differ ↦ elim differ [
      | inl less ↦ absurd (lacks NoSession (
        (λ session there.
            subst (λ (c : ClientState). c.incarnation < key.incarnation) (same_Some _ _ (sym known ∙ there))
            less),
        refl,
      ))
      | inr more ↦ absurd (old (OldIncarnation x.incarnation)
          (record { session = x; there = known; lower = more; is = refl }))
    ]
  ]

  pub last_of : NotDue (NumberOld s key) → (last : NumberIsLast s key) → IsLastOf s key last.session
  last_of number last = record {
    of_session = record {
      epoch = same_epoch;
      there = last.there;
      incarnation = same_incarnation last.session last.there;
    };
    last = sym last.last;
    asked = λ none. number (OldNumber last.session.last)
        (record { session = last.session; there = last.there; old = inr none; is = refl });
  }
