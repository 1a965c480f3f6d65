-- No line was passed over.
use Rattle.std.proofs.Common.{◌+◌, [], arith, refl}
use Rattle.rv_store.specs.Joined.{takes_none}
use Rattle.rv_store.proofs.Resumed.{passes_none, passes_some}
use Rattle.rv_store.proofs.resuming.ResumingReader.new.Goals as goal

pub returns-clause-none : goal.returns-clause-none
returns-clause-none c = record {
  account = [];
  is = (refl, refl);
  rest = [];
  passes = passes_some (c.args.machine.length + 1) (c.length.result + 1) 0 [] [] (passes_none [] refl)
      (omega (arith, c.length.ensures)) (λ some. refl);
  reads = takes_none c.after.result;
}
