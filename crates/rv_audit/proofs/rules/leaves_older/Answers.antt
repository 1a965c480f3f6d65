use Rattle.rv_audit.proofs.Words.{◌∙◌, refl, sym, ap, subst, passed_account}
use Rattle.std.specs.Option.{option_copied}
use Rattle.rv_audit.specs.Passed.{IsOldestOpposite}
use Rattle.rv_audit.proofs.Telling.{no_partner, none_older, older}
use Rattle.rv_audit.proofs.rules.leaves_older.Goals as goal

pub returns-in-Some-last : goal.returns-in-Some-last
returns-in-Some-last c =
    let es = (passed_account c.args.front.now).entries in
    older es c.args.call.now c.args.partners.now c.requires.rise c.in-Some.first c.in-Some-last.last.now _
    refl
    (subst (IsOldestOpposite es c.args.call.now c.args.partners.now) c.in-Some.is c.oldest_opposite.ensures)
    (sym c.last.ensures.value ∙ ap option_copied c.in-Some-last.is)

pub returns-in-None-last : goal.returns-in-None-last
returns-in-None-last c = no_partner (passed_account c.args.front.now).entries c.args.call.now
    c.args.partners.now (sym c.last.ensures.value ∙ ap option_copied c.in-None-last.is)

pub returns-in-None : goal.returns-in-None
returns-in-None c =
    let es = (passed_account c.args.front.now).entries in
    none_older es c.args.call.now c.args.partners.now
    (subst (IsOldestOpposite es c.args.call.now c.args.partners.now) c.in-None.is c.oldest_opposite.ensures)
