-- A refusal that is due in a state to resume from is within the limits.
use Rattle.std.proofs.Common.{◌≡◌, ◌≢◌, ◌≤◌, ◌∙◌, ℕ, zero, suc, Some, refl, sym, ap, subst, arith}
use Rattle.rv_text.specs.declared.answer.Refusal.{Refusal}
use Rattle.rv_text.specs.declared.answer.Refusal.TheVariants.{OtherVersion}
use Rattle.rv_text.specs.declared.call.Call.{Call}
use Rattle.rv_text.specs.declared.message.Key.{Key}
use Rattle.rv_text.specs.declared.version.Version.{Version}
use Rattle.rv_text.specs.declared.version.Version.TheVariants.{One, Two}
use Rattle.rv_text.specs.Limits.{FitsIdentifier, FitsRefusal}
use Rattle.rv_session.specs.Clients.{place_waiting}
use Rattle.rv_account.specs.rules.StepLimits.{StepLimits}
use Rattle.rv_account.specs.state.Moves.{CallDiffers, EpochDiffers, IncarnationOld, NoClientMoreUnder}
use Rattle.rv_account.specs.state.Moves.{NoEntryMoreUnder, NoPlaceMore, NumberAbove, NumberOld, SessionBusy}
use Rattle.rv_account.specs.state.Moves.{SessionLacks, VersionDiffers}
use Rattle.rv_account.specs.state.State.{ClientState, State, client_at}
use Rattle.rv_account.proofs.OfState.Words.{none-some}
use Rattle.rv_account.specs.state.resume.Resuming.{CanResume}

-- each refusal that is due so is within the limits
abbrev pub DueFits : (Refusal → Type 0) → Type 0
DueFits due = (refusal : Refusal) → due refusal → FitsRefusal refusal

refusal_is : (p q : Refusal) → q ≡ p → FitsRefusal p → FitsRefusal q
refusal_is p q is fits = subst FitsRefusal (sym is) fits

version_fits : (v : Version) → FitsRefusal (OtherVersion v)
version_fits One = (omega arith, omega arith)
version_fits Two = (omega arith, omega arith)

positive : (n : ℕ) → n ≢ 0 → 1 ≤ n
positive zero some = absurd (some refl)
positive (suc n) some = omega arith

-- the last number of a session of which something waits
pub waiting_last : (s : State) → CanResume s → (client : ℕ) (session : ClientState) (place : ℕ)
    → client_at s client ≡ Some session → place_waiting session.request ≡ Some place
    → FitsIdentifier session.last
waiting_last s is client session place known waits =
    let fits = is.sessions client session known in (
      positive session.last (λ none.
          none-some place (sym (ap place_waiting (fits.unasked none)) ∙ waits)),
      fits.last,
    )

pub call_differs : (s : State) (key : Key) (c : Call) → DueFits (CallDiffers s key c)
call_differs s key c refusal due = refusal_is _ refusal due.is tt

pub session_lacks : (s : State) (key : Key) → DueFits (SessionLacks s key)
session_lacks s key refusal due = refusal_is _ refusal due.1 tt

pub version_differs : (s : State) (client incarnation : ℕ) (version : Version)
    → DueFits (VersionDiffers s client incarnation version)
version_differs s client incarnation version refusal due =
    refusal_is _ refusal due.is (version_fits due.session.version)

pub no_client_more : (limits : StepLimits) (s : State) (client : ℕ)
    → DueFits (NoClientMoreUnder limits s client)
no_client_more limits s client refusal due = refusal_is _ refusal due.is tt

pub no_entry_more : (limits : StepLimits) (s : State) (need : ℕ) → DueFits (NoEntryMoreUnder limits s need)
no_entry_more limits s need refusal due = refusal_is _ refusal due.is tt

pub no_place_more : (most : ℕ) (s : State) (c : Call) → DueFits (NoPlaceMore most s c)
no_place_more most s c refusal due = refusal_is _ refusal due.is tt

module _ (s : State) (is : CanResume s) where
  pub epoch_differs : (key : Key) → DueFits (EpochDiffers s key)
  epoch_differs key refusal due = refusal_is _ refusal due.1 is.epoch

  pub incarnation_old : (client incarnation : ℕ) → DueFits (IncarnationOld s client incarnation)
  incarnation_old client incarnation refusal due =
      refusal_is _ refusal due.is (is.sessions client due.session due.there).incarnation

  pub number_old : (key : Key) → DueFits (NumberOld s key)
  number_old key refusal due =
      refusal_is _ refusal due.is (is.sessions key.client due.session due.there).last

  pub session_busy : (key : Key) → DueFits (SessionBusy s key)
  session_busy key refusal due =
      refusal_is _ refusal due.is (waiting_last s is key.client due.session due.place due.there due.waits)

  pub number_above : (key : Key) → DueFits (NumberAbove s key)
  number_above key refusal due =
      refusal_is _ refusal due.is (is.sessions key.client due.session due.there).last
