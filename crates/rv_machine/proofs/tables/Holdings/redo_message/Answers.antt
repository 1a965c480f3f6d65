-- Under the widest limits a message that goes on is heard, or lacks memory.
use Rattle.std.proofs.Common.{sym, subst}
use Rattle.rv_machine.specs.declared.machine.Said.{Said}
use Rattle.rv_machine.proofs.Redoing.{Accepts, heard_none, heard_redone, heard_spares, heard_stays}
use Rattle.rv_machine.proofs.tables.Holdings.redo_message.Goals as goal

pub returns-in-Refused-clause-stays : goal.returns-in-Refused-clause-stays
returns-in-Refused-clause-stays c is =
    heard_stays c.args.self.now c.hear-heard.new.self c.args.moment c.args.message c.hear-heard.result
    c.requires.goes_on
    c.widest.result c.widest.ensures c.hear-heard.ensures.hears c.in-Refused.field-0 c.in-Refused.is

pub returns-in-Refused-clause-none : goal.returns-in-Refused-clause-none
returns-in-Refused-clause-none c is =
    heard_none c.args.self.now c.hear-heard.new.self c.args.moment c.args.message c.hear-heard.result
    c.requires.goes_on
    c.widest.result c.widest.ensures c.hear-heard.ensures.hears c.in-Refused.field-0 c.in-Refused.is

pub returns-in-Refused-clause-spare : goal.returns-in-Refused-clause-spare
returns-in-Refused-clause-spare c none =
    absurd (heard_spares c.args.self.now c.hear-heard.new.self c.args.moment c.args.message
    c.hear-heard.result
    c.requires.goes_on c.widest.result c.widest.ensures c.hear-heard.ensures.hears none c.in-Refused.field-0
    c.in-Refused.is)

pub returns-in-Welcome-clause-done : goal.returns-in-Welcome-clause-done
returns-in-Welcome-clause-done c is =
    heard_redone c.args.self.now c.hear-heard.new.self c.args.moment c.args.message c.hear-heard.result
    c.requires.goes_on
    c.widest.result c.widest.ensures c.hear-heard.ensures.hears
    (subst (λ (x : Said). Accepts x) (sym c.in-Welcome.is) tt)

pub returns-in-Told-clause-done : goal.returns-in-Told-clause-done
returns-in-Told-clause-done c is =
    heard_redone c.args.self.now c.hear-heard.new.self c.args.moment c.args.message c.hear-heard.result
    c.requires.goes_on
    c.widest.result c.widest.ensures c.hear-heard.ensures.hears
    (subst (λ (x : Said). Accepts x) (sym c.in-Told.is) tt)
