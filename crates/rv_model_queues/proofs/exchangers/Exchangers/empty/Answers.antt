-- At each exchanger that was made nobody waits.
use Rattle.rv_model_queues.proofs.Words.{◌≡◌, ◌∷◌, ◌++◌, ◌∙◌, [], length, sym, ap, subst, arith}
use Rattle.rv_model_queues.proofs.Words.{length-append, AllFree}
use Rattle.rv_model_queues.proofs.Exchanging.{append_free, none_free}
use Rattle.rv_model_queues.proofs.exchangers.Exchangers.empty.Goals as goal

pub loop-init : goal.loop-init
loop-init c = record {
  count = ap length c.new-exchangers.ensures.items;
  free = subst AllFree (sym c.new-exchangers.ensures.items) none_free;
}

pub loop-preserved : goal.loop-preserved
loop-preserved c =
    let old = c.loop.exchangers.items in
    let pushed : c.push.new.self.items ≡ old ++ c.new.result ∷ [] = c.in_ok-push.ensures.items in
    record {
      count = let before : length old ≡ c.loop.counter = c.loop.invariant.count in ap length pushed
          ∙ omega (arith, length-append old (c.new.result ∷ []));
      free = subst AllFree (sym pushed) (append_free old c.new.result c.new.ensures c.loop.invariant.free);
    }
