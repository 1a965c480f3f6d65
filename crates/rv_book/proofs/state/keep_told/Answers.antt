-- There is room for the own client also once those who were settled were told.
use Rattle.std.proofs.Common.{◌<◌, ◌∙◌, sym, subst, ℕ}
use Rattle.rv_machine.specs.Machines.{state_in}
use Rattle.rv_book.proofs.KeepingAll.{still_none}
use Rattle.rv_book.proofs.state.keep_told.Goals as goal

pub keep-requires-clause-room : goal.keep-requires-clause-room
keep-requires-clause-room c none =
    subst (λ (n : ℕ). 0 < n) (sym c.keep_settled.ensures.room)
    (c.requires.place c.in-Some.client (sym c.client_of.ensures ∙ c.in-Some.is)
    (still_none (state_in c.args.machine.now) c.args.place c.args.machine.now.settled.items
    c.args.kept.now.replies c.keep_settled.new.kept.replies c.in-Some.client c.keep_settled.ensures.keeps
    none))
