-- An idle process ignores every answer.
use Rattle.rv_world.proofs.OfParts.Words.{sym, subst, HearsAs, process_in}
use Rattle.std.specs.Prelude.{refl, Some, None}
use Rattle.rv_world.specs.parts.Processes.{LeavesProcess}
use Rattle.rv_client.specs.Process as process
use Rattle.rv_world.specs.declared.parts.seen.Seen.TheVariants as sees
use Rattle.rv_world.proofs.parts.process.Running.hear.Goals as goal

pub returns-in-Idle : goal.returns-in-Idle
returns-in-Idle c = subst (λ running. HearsAs (process_in running) c.args.answer c.of.result)
    (sym c.in-Idle.is) (record {
      outcome = process.Ignored (process.Idle c.in-Idle.idle);
      hears = refl;
      leaves = subst (λ told. LeavesProcess told (Some (process.Idle c.in-Idle.idle)) None sees.Ignored)
          (sym c.of.ensures) (record { process = refl; holds = refl; shows = refl });
    })
