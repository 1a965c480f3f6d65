-- One more hello follows those in vain, or ends them.
use Rattle.std.proofs.Common.{◌∙◌, refl, subst, sym}
use Rattle.rv_text.specs.Limits.{FitsIdentifier}
use Rattle.rv_client.specs.Link.{link}
use Rattle.rv_client.specs.Process.{Starting}
use Rattle.rv_run.specs.calls.Calling.{HelloEnds, IsHelloInVain}
use Rattle.rv_run.proofs.OfCalls.Settling.{hello_ended, none_in_vain, one_more_in_vain}
use Rattle.rv_run.proofs.calls.client.Caller.say_hello.Goals as goal

pub loop-tried-init : goal.loop-tried-init
loop-tried-init g c = record {
  same = refl;
  client = c.requires.client;
  incarnation = c.requires.incarnation;
  in_vain = none_in_vain g.R.Read.remaining g.W.Write.contents c.args.new _;
}

pub loop-tried-preserved : goal.loop-tried-preserved
loop-tried-preserved g c =
    let again = c.in-Ok.ensures.again in
    record {
      same = again.0 ∙ c.loop-tried.invariant.same;
      client = subst (λ (s : Starting). FitsIdentifier s.client) (sym again.0) c.loop-tried.invariant.client;
      incarnation = subst (λ (s : Starting). FitsIdentifier s.incarnation) (sym again.0)
          c.loop-tried.invariant.incarnation;
      in_vain = one_more_in_vain g.R.Read.remaining g.W.Write.contents c.args.new c.loop-tried._tried
          (link c.args.from.now c.args.to.now) (link c.loop-tried.from c.loop-tried.to)
          (link c.try_hello.new.from c.try_hello.new.to) c.loop-tried.invariant.in_vain
          (subst (λ (s : Starting). IsHelloInVain g.R.Read.remaining g.W.Write.contents s
          (link c.loop-tried.from c.loop-tried.to) (link c.try_hello.new.from c.try_hello.new.to))
          c.loop-tried.invariant.same again.1);
    }

pub returns-in-Err : goal.returns-in-Err
returns-in-Err g c = hello_ended g.R.Read.remaining g.W.Write.contents c.args.new c.loop-tried._tried
    c.args.self.tries (link c.args.from.now c.args.to.now) (link c.loop-tried.from c.loop-tried.to)
    (link c.try_hello.new.from c.try_hello.new.to) c.in-Err.ended c.loop-tried.invariant.in_vain
    c.loop-tried-test.true
    (subst (λ (s : Starting). HelloEnds g.R.Read.remaining g.W.Write.contents s (link c.loop-tried.from
    c.loop-tried.to) (link c.try_hello.new.from c.try_hello.new.to) c.in-Err.ended)
    c.loop-tried.invariant.same c.in-Err.ensures.ended)
