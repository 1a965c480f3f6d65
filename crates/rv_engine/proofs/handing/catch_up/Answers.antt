-- So many lines more are gathered.
use Rattle.std.proofs.Common.{refl, string_bytes}
use Rattle.rv_engine.proofs.Gathered.{gathers_rest}
use Rattle.rv_engine.proofs.handing.catch_up.Goals as goal

pub returns-clause-gathers : goal.returns-clause-gathers
returns-clause-gathers c = record {
  gathers = gathers_rest c.args.parts.now.hub.dispatcher.entries.items c.entries.result.now
      c.args.parts.now.gathered c.gather.result (string_bytes c.args.parts.now.lines)
      (string_bytes c.gather.new.lines) c.entries.ensures c.gather.ensures.lines;
  hub = refl;
  stored = refl;
  looks = record { looks = refl; round = refl; room = refl };
}
