-- A machine without entries, whose state can be resumed from.
use Rattle.std.proofs.Common.{[], ◌≡◌, ◌≤◌, ℕ, arith, refl, subst, sym}
use Rattle.rv_account.specs.Limits.{max_moment}
use Rattle.rv_account.specs.rules.Steps.{capped_moment}
use Rattle.rv_account.specs.state.State.{opening}
use Rattle.rv_hub.specs.dispatcher.View.{DispatcherState}
use Rattle.rv_engine.specs.Engines.{EngineState}
use Rattle.rv_engine.specs.EngineRuns.{BeginsStored}
use Rattle.rv_machine.specs.Machines.{state_in}
use Rattle.rv_machine.specs.declared.machine.Machine.{Machine}
use Rattle.rv_account.specs.state.resume.Resuming.{CanResume}
use Rattle.rv_account.proofs.OfState.Resumed.ResumeLaws.{openings_resume}
use Rattle.rv_words.specs.options.Numbers.{Fits}
use Rattle.rv_words.specs.declared.options.number.HostNumber.TheVariants as number

within : (n : ℕ) → capped_moment n ≤ max_moment
within n = omega arith

pub opened_resumes : (machine : Machine) (epoch now : ℕ) → Fits number.Epoch epoch
    → state_in machine ≡ opening epoch (capped_moment now) → CanResume (state_in machine)
opened_resumes machine epoch now fits is =
    subst CanResume (sym is) (openings_resume epoch (capped_moment now) (fits.0, fits.1) (within now))

-- all of a new engine is written, and stored
pub begins_new : (s : EngineState) (hub : DispatcherState) (stored room : ℕ)
    → s ≡ record { hub = hub; lines = []; left = []; stored = stored; looks = []; round = []; room = room }
    → stored ≡ hub.book.length → hub.open_wires.written ≤ hub.book.length → BeginsStored s
begins_new s hub stored room is same told =
    subst BeginsStored (sym is)
    (record { all = record { lines = refl; left = refl }; stored = same; told = told })
