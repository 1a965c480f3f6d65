use Rattle.rv_audit.proofs.Passing.{none_passed}
use Rattle.rv_audit.proofs.front.Front.empty.Goals as goal

pub returns-clause-front : goal.returns-clause-front
returns-clause-front c = none_passed _ c.opened.ensures c.new.ensures.items c.empty.ensures.indexed
    c.empty.ensures.none c.empty-2.ensures
