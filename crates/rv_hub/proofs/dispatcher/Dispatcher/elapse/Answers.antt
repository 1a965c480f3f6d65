-- The machine's tick is the time.
use Rattle.std.proofs.Common.{◌∙◌, ◌++◌, Option, arith, ap, refl, sym}
use Rattle.std.specs.Prelude.{option_to_list}
use Rattle.std.proofs.lemmas.List.{append-nil}
use Rattle.rv_account.specs.declared.entry.Entry.{Entry}
use Rattle.rv_machine.specs.Machines.{state_in}
use Rattle.rv_hub.proofs.OfDispatcher.Passed.{elapsed, elapsed_moment}
use Rattle.rv_hub.proofs.dispatcher.Dispatcher.elapse.Goals as goal

pub returns-in-Some : goal.returns-in-Some
returns-in-Some c =
    let kept = c.push_reserved.ensures.capacity in
    let all = elapsed c.args.self.now c.elapse-moment.new.self c.elapse-moment.result.moment c.args.now
    c.elapse-moment.result c.push_reserved.new.self c.requires.ready
    (c.elapse-moment.ensures.exact ∙ elapsed_moment (state_in c.args.self.now.machine) c.max.result
    c.args.self.now.latest c.args.now c.requires.ready.sound.book.later c.requires.ready.sound.book.time
    c.max.ensures)
    refl c.elapse-moment.ensures.time
    c.elapse-moment.ensures.ticks
    (c.push_reserved.ensures.items
    ∙ ap (λ (o : Option Entry). c.args.self.now.entries.items ++ option_to_list o) (sym c.in-Some.is))
    c.requires.room (omega arith) in
    record { sound = all.0; elapses = all.1; still = all.2 }

pub returns-in-None : goal.returns-in-None
returns-in-None c =
    let all = elapsed c.args.self.now c.elapse-moment.new.self c.elapse-moment.result.moment c.args.now
    c.elapse-moment.result c.args.self.now.entries c.requires.ready
    (c.elapse-moment.ensures.exact ∙ elapsed_moment (state_in c.args.self.now.machine) c.max.result
    c.args.self.now.latest c.args.now c.requires.ready.sound.book.later c.requires.ready.sound.book.time
    c.max.ensures)
    refl c.elapse-moment.ensures.time
    c.elapse-moment.ensures.ticks
    (sym (append-nil c.args.self.now.entries.items)
    ∙ ap (λ (o : Option Entry). c.args.self.now.entries.items ++ option_to_list o) (sym c.in-None.is))
    c.requires.room (omega arith) in
    record { sound = all.0; elapses = all.1; still = all.2 }
