-- The laws of what waits in a state to resume from.
use Rattle.std.proofs.Common.{◌≡◌, ◌∷◌, [], ℕ, List, refl, sym, ap, subst}
use Rattle.rv_account.specs.declared.entry.Act.TheVariants.{Tick}
use Rattle.rv_session.specs.Clients.{place_waiting}
use Rattle.rv_account.specs.state.After.{due_at}
use Rattle.rv_account.specs.state.Moves.{ticked_if}
use Rattle.rv_account.specs.state.State.{ClientState, OpenPlace, State, client_at}
use Rattle.rv_account.specs.state.resume.Resuming.{CanResume}
use Rattle.rv_account.proofs.OfState.Resumed.Kept.{holds}
use Rattle.rv_account.proofs.OfState.Resumed.StepLaws.{next_resumes, ticked_before, ticks_resume}
use Rattle.rv_text.specs.declared.message.Key.{Key}
use Rattle.rv_text.specs.Limits.{FitsIdentifier, FitsKey}
use Rattle.rv_account.specs.state.waiting.Laws.{MovesAnswer, MovesLast, OldFits, TicksLast, ToldFits}
use Rattle.rv_account.specs.state.waiting.Laws.{WaitingFits}
use Rattle.rv_account.specs.state.waiting.Waiting.{SettlesJust}
use Rattle.rv_account.proofs.OfState.OfWaiting.Entries.{entry_settles, none_settled}
use Rattle.rv_account.proofs.OfState.OfWaiting.MoveEnds.{ends_well}
use Rattle.rv_account.proofs.OfState.OfWaiting.OwnMoments.{none_due_now}
use Rattle.rv_account.proofs.OfState.OfWaiting.Refusals.{waiting_last}
use Rattle.rv_account.proofs.OfState.OfWaiting.Told.{again_fits}
use Rattle.std.proofs.Common.{Some}

-- ---- time

ticked_settles : (s : State) → CanResume s → (moment : ℕ) (due : List OpenPlace)
    → SettlesJust s (ticked_if s moment due).after (ticked_if s moment due).settles
ticked_settles s is moment [] = none_settled s
ticked_settles s is moment (first ∷ others) = entry_settles s (holds s is) moment Tick tt

ticked_undue : (s : State) (moment : ℕ) (due : List OpenPlace) → due_at s moment ≡ due
    → CanResume (ticked_if s moment due).after → due_at (ticked_if s moment due).after moment ≡ []
ticked_undue s moment [] none is = none
ticked_undue s moment (first ∷ others) some is = none_due_now (ticked_if s moment (first ∷ others)).after is

pub ticks_last : TicksLast
ticks_last s moment is not_before time =
    let due = due_at s moment in
    let resumes = ticks_resume s is moment time not_before due refl in
    record {
      resumes = resumes;
      in_time = ticked_before s is moment time not_before due;
      none_due = ticked_undue s moment due refl resumes;
      just = ticked_settles s is moment due;
    }

-- ---- a move

pub moves_last : MovesLast
moves_last limits s moment m move are is none not_before time fits next =
    let resumes = next_resumes s is moment time not_before none limits are move m fits next in
    let well = ends_well s is moment none not_before move resumes limits m fits next in
    record {
      resumes = resumes;
      in_time = well.in_time;
      none_due = well.none_due;
      just = well.just;
    }

pub moves_answer : MovesAnswer
moves_answer limits s moment m move are is none not_before time fits next =
    let resumes = next_resumes s is moment time not_before none limits are move m fits next in
    (ends_well s is moment none not_before move resumes limits m fits next).answers

-- ---- what fits

-- the key of a session's request
key_fits : (s : State) → CanResume s → (key : Key) (session : ClientState)
    → client_at s key.client ≡ Some session → key.epoch ≡ s.epoch → session.incarnation ≡ key.incarnation
    → FitsIdentifier key.number → FitsKey key
key_fits s is key session known epoch incarnation number =
    let fits = is.sessions key.client session known in (
      subst FitsIdentifier (sym epoch) is.epoch,
      fits.client_fits,
      subst FitsIdentifier incarnation fits.incarnation,
      number,
    )

pub told_fits : ToldFits
told_fits s key session is known epoch number incarnation last =
    again_fits key s.epoch session.version epoch
    (key_fits s is key session known epoch incarnation number) session.request
    (is.sessions key.client session known).request

pub old_fits : OldFits
old_fits s client session is known = (is.sessions client session known).incarnation

pub waiting_fits : WaitingFits
waiting_fits s key is w =
    key_fits s is key w.session w.there w.epoch w.incarnation (subst FitsIdentifier w.last
    (waiting_last s is key.client w.session w.place w.there (ap place_waiting w.waits)))
