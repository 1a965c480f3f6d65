-- Each queue that was made is empty.
use Rattle.rv_model_queues.proofs.Words.{◌≡◌, ◌∷◌, ◌++◌, ◌∙◌, [], length, sym, ap, subst, arith}
use Rattle.rv_model_queues.proofs.Words.{length-append, AllEmpty}
use Rattle.rv_model_queues.proofs.Tabled.{append_empty, none_empty}
use Rattle.rv_model_queues.proofs.queues.Queues.empty.Goals as goal

pub loop-init : goal.loop-init
loop-init c = record {
  count = ap length c.new-queues.ensures.items;
  empty = subst AllEmpty (sym c.new-queues.ensures.items) none_empty;
}

pub loop-preserved : goal.loop-preserved
loop-preserved c =
    let old = c.loop.queues.items in
    let pushed : c.push.new.self.items ≡ old ++ c.new.result ∷ [] = c.in_ok-push.ensures.items in
    record {
      count = let before : length old ≡ c.loop.counter = c.loop.invariant.count in ap length pushed
          ∙ omega (arith, length-append old (c.new.result ∷ []));
      empty = subst AllEmpty (sym pushed) (append_empty old c.new.result c.new.ensures.givers
          c.new.ensures.takers c.loop.invariant.empty);
    }
