-- A process ends.
use Rattle.rv_world.proofs.OfParts.Words.{refl, None, world_of}
use Rattle.rv_world.proofs.OfParts.TableWrites.{only_turns, runs_stands}
use Rattle.rv_world.proofs.parts.state.WorldState.crash.Goals as goal

pub returns-clause-comes : goal.returns-clause-comes
returns-clause-comes c =
    let old = c.args.self.now in
    let runs = c.in_ok-process.ensures.ok in
    record {
      process = _;
      runs = runs;
      ends = record {
        changes = only_turns (world_of old) (world_of (record old { clients = c.replace_process.new.self }))
            old.clients c.replace_process.new.self c.args.client None refl refl
            c.replace_process.ensures.after (runs_stands old.clients c.args.client _ runs);
        rest = refl;
      };
      shown = refl;
    }
