-- The laws of states to resume from.
use Rattle.std.proofs.Common.{ℕ, arith}
use Rattle.std.proofs.Common.{sym, ◌∙◌}
use Rattle.std.specs.FinMap.{get-empty, len-empty}
use Rattle.std.specs.Ordering.{nat_cmp}
use Rattle.rv_account.specs.state.State.{ClientState}
use Rattle.rv_account.specs.declared.entry.Act.{Act}
use Rattle.rv_account.specs.declared.entry.Act.TheVariants.{Arrive, Cancel, Hello, Tick}
use Rattle.rv_account.specs.Limits.{FitsAct}
use Rattle.rv_account.specs.state.After.{following}
use Rattle.rv_account.specs.state.Follows.{NumberFits}
use Rattle.rv_account.specs.state.State.{OpenPlace, State, opening}
use Rattle.rv_account.proofs.OfState.Words.{none-some}
use Rattle.rv_account.specs.state.resume.Laws.{EntriesResume, OpeningsResume}
use Rattle.rv_account.specs.state.resume.Resuming.{CanResume, IsOpenIn, StaysInRoom}
use Rattle.rv_account.proofs.OfState.Resumed.Arriving.{arrived_holds}
use Rattle.rv_account.proofs.OfState.Resumed.Behind.{AreInTime, entry_in_time}
use Rattle.rv_account.proofs.OfState.Resumed.Kept.{HoldsTogether, holds}
use Rattle.rv_account.proofs.OfState.Resumed.Stopping.{cancelled_holds, greeted_holds, ticked_holds}

entry_holds : (s : State) → CanResume s → (moment : ℕ) (does : Act) → FitsAct does → NumberFits s does
    → HoldsTogether (following s moment does).after
entry_holds s is moment (Hello client incarnation version) fits number =
    greeted_holds s (holds s is) client moment incarnation version fits.0 fits.1
entry_holds s is moment (Arrive key c) fits number = arrived_holds s is moment key c fits.0 fits.1 number
entry_holds s is moment (Cancel key) fits number = cancelled_holds s (holds s is) moment key fits number
entry_holds s is moment Tick fits number = ticked_holds s (holds s is) moment

resumes : (s : State) → HoldsTogether s → AreInTime s → StaysInRoom s → CanResume s
resumes s is in_time room = record {
  room = room;
  epoch = is.epoch;
  rise = is.rise;
  below = is.below;
  apart = is.apart;
  awaited = is.awaited;
  began = λ there w at. (in_time there at).began w;
  lies = is.lies;
  undue = λ there limit at. (in_time there at).undue limit;
  standing = is.standing;
  sessions = is.sessions;
}

pub entries_resume : EntriesResume
entries_resume s e is fits follows room =
    resumes (following s e.moment e.act).after (entry_holds s is e.moment e.act fits.1 follows.number)
    (entry_in_time s is e.moment e.act follows.moment) room

no_place : {A : Type 0} (epoch moment : ℕ) (there : OpenPlace) → IsOpenIn (opening epoch moment) there → A
no_place epoch moment there at = absurd (none-some there at.1)

pub openings_resume : OpeningsResume
openings_resume epoch moment fits time = record {
  room = record {
    time = time;
    space = omega arith;
    clients = omega (arith, len-empty nat_cmp ClientState);
    places = omega arith;
  };
  epoch = fits;
  rise = λ i j one other less first second. absurd (none-some one first);
  below = λ there. no_place epoch moment there;
  apart = λ one other first second. no_place epoch moment one first;
  awaited = λ there w at. no_place epoch moment there at;
  began = λ there w at. no_place epoch moment there at;
  lies = λ there at. no_place epoch moment there at;
  undue = λ there limit at. no_place epoch moment there at;
  standing = λ client session place call known. absurd (none-some session (sym (get-empty nat_cmp client)
      ∙ known));
  sessions = λ client session known. absurd (none-some session (sym (get-empty nat_cmp client) ∙ known));
}
