use Rattle.rv_audit.proofs.Words.{ℕ, List, passed_account, sym, subst}
use Rattle.rv_audit.specs.Opens.{ClosesEach}
use Rattle.rv_audit.proofs.Passing.{closes_one, none_waits_there, one_waits_there, closes_none}
use Rattle.rv_audit.proofs.front.Front.close_waiting.Goals as goal

pub returns-in-Some-clause-closes : goal.returns-in-Some-clause-closes
returns-in-Some-clause-closes c =
    subst (λ (places : List ℕ). ClosesEach c.args.self.now.opens c.close.new.self places)
    (sym (one_waits_there (passed_account c.args.self.now) c.requires.legal c.args.client c.in-Some.place
    c.in-Some.ensures.some))
    (closes_one c.args.self.now.opens c.close.new.self c.in-Some.place c.close.ensures.closes)

pub returns-in_default-clause-closes : goal.returns-in_default-clause-closes
returns-in_default-clause-closes c =
    subst (λ (places : List ℕ). ClosesEach c.args.self.now.opens c.args.self.now.opens places)
    (sym (none_waits_there (passed_account c.args.self.now) c.requires.legal c.args.client
    c.in_default.ensures.none))
    (closes_none c.args.self.now.opens c.requires.indexed)
