-- The machine's move is the step.
use Rattle.std.proofs.Common.{◌∙◌, ◌++◌, Option, arith, ap, sym}
use Rattle.std.specs.Prelude.{option_to_list}
use Rattle.std.proofs.lemmas.List.{append-nil}
use Rattle.rv_account.specs.declared.entry.Entry.{Entry}
use Rattle.rv_hub.proofs.OfDispatcher.Stepped.{stepped}
use Rattle.rv_hub.proofs.dispatcher.Dispatcher.step.Goals as goal

pub returns-in-Some : goal.returns-in-Some
returns-in-Some c =
    let kept = c.push_reserved.ensures.capacity in
    let all = stepped c.args.self.now c.hear-entry.new.self c.push_reserved.new.self c.args.message
    c.hear-entry.result c.requires.steady c.requires.fits c.hear-entry.ensures.hears
    (c.push_reserved.ensures.items
    ∙ ap (λ (o : Option Entry). c.args.self.now.entries.items ++ option_to_list o) (sym c.in-Some.is))
    (omega arith) in
    record { sound = all.0; steps = all.1; still = all.2 }

pub returns-in-None : goal.returns-in-None
returns-in-None c =
    let all = stepped c.args.self.now c.hear-entry.new.self c.args.self.now.entries c.args.message
    c.hear-entry.result c.requires.steady c.requires.fits c.hear-entry.ensures.hears
    (sym (append-nil c.args.self.now.entries.items)
    ∙ ap (λ (o : Option Entry). c.args.self.now.entries.items ++ option_to_list o) (sym c.in-None.is))
    (omega arith) in
    record { sound = all.0; steps = all.1; still = all.2 }
