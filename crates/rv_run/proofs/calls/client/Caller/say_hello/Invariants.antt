-- The client is the one that began, and all hellos so far were in vain.
use Rattle.std.proofs.Common.{◌≡◌}
use Rattle.rv_text.specs.Limits.{FitsIdentifier}
use Rattle.rv_client.specs.Link.{link}
use Rattle.rv_run.specs.calls.Calling.{AllInVain}
use Rattle.rv_run.proofs.calls.client.Caller.say_hello.Given as goal

abbrev pub invariant-loop-tried : goal.invariant-loop-tried
invariant-loop-tried g l = record {
  same : l.new ≡ l.initial.new;
  client : FitsIdentifier l.new.client;
  incarnation : FitsIdentifier l.new.incarnation;
  in_vain : AllInVain g.R.Read.remaining g.W.Write.contents l.initial.new l._tried
      (link l.initial.from l.initial.to) (link l.from l.to);
}
