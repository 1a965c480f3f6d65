-- One more try follows those before, or ends the call.
use Rattle.std.proofs.Common.{◌∙◌, IfSome, refl, subst, sym}
use Rattle.rv_text.specs.Limits.{FitsCall, FitsKey}
use Rattle.rv_client.specs.Calls.{Decides, EndsBy}
use Rattle.rv_client.specs.Link.{link}
use Rattle.rv_client.specs.Process.{Asking, Ignored, Outstanding}
use Rattle.rv_client.proofs.Tries.{ended_call, none_yet, once_more}
use Rattle.rv_client.proofs.calling.call.Goals as goal

pub loop-tried-init : goal.loop-tried-init
loop-tried-init g c = record {
  same = refl;
  key = subst (λ k. IfSome k FitsKey) c.begin-outstanding.ensures.key c.requires.key;
  call = subst FitsCall (sym c.begin-outstanding.ensures.call) c.requires.call;
  in_vain = none_yet g.R.Read.remaining g.W.Write.contents c.begin-outstanding.result _;
}

pub loop-tried-preserved : goal.loop-tried-preserved
loop-tried-preserved g c =
    let still = c.in-Ok.ensures.still in
    record {
      same = still.0 ∙ c.loop-tried.invariant.same;
      key = subst (λ (o : Asking). FitsKey o.key) (sym still.0) c.loop-tried.invariant.key;
      call = subst (λ (o : Asking). FitsCall o.call) (sym still.0) c.loop-tried.invariant.call;
      in_vain = once_more g.R.Read.remaining g.W.Write.contents c.begin-outstanding.result
          (link c.args.source.now c.args.sink.now) (link c.loop-tried.source c.loop-tried.sink)
          (link c.try_once.new.source c.try_once.new.sink) c.loop-tried._tried c.loop-tried.invariant.in_vain
          (subst (λ (o : Asking). Decides g.R.Read.remaining g.W.Write.contents o (link c.loop-tried.source
          c.loop-tried.sink) (link c.try_once.new.source c.try_once.new.sink) (Ignored (Outstanding o)))
          c.loop-tried.invariant.same still.1);
    }

pub returns-in-Err : goal.returns-in-Err
returns-in-Err g c = ended_call g.R.Read.remaining g.W.Write.contents _ _ _ _ _ _ _
    c.begin-outstanding.ensures.key c.begin-outstanding.ensures.call (record {
      times = c.loop-tried._tried;
      fewer = c.loop-tried-test.true;
      between = link c.loop-tried.source c.loop-tried.sink;
      in_vain = c.loop-tried.invariant.in_vain;
      ends = subst (λ (o : Asking). EndsBy g.R.Read.remaining g.W.Write.contents o (link c.loop-tried.source
          c.loop-tried.sink) (link c.try_once.new.source c.try_once.new.sink) c.in-Err.called)
          c.loop-tried.invariant.same c.in-Err.ensures.ended;
    })
