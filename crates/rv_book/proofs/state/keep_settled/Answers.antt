-- Each key that is settled is of a client of which something is kept, and with it one more is.
use Rattle.std.proofs.Common.{◌∙◌, subst, sym, List}
use Rattle.rv_text.specs.declared.message.Key.{Key}
use Rattle.rv_machine.specs.Machines.{state_in}
use Rattle.rv_book.specs.Operations.{AreKnown}
use Rattle.rv_book.proofs.KeepingAll.{keeping_more, known_in, known_of}
use Rattle.rv_book.proofs.state.keep_settled.Goals as goal

pub keep-requires-clause-room : goal.keep-requires-clause-room
keep-requires-clause-room c none =
    let s = state_in c.args.machine.now in
    let kept = c.args.kept.now.replies in
    let all = subst (λ (l : List Key). AreKnown s kept l) (sym c.settled-key-items.ensures) c.requires in
    absurd (known_of s c.args.place kept c.settled-key-items.result.now c.loop-key.key-index _
    c.loop-key.kept.replies all c.loop-key-test.true c.loop-key.invariant.0 none)

pub loop-key-preserved : goal.loop-key-preserved
loop-key-preserved c =
    let s = state_in c.args.machine.now in
    let kept = c.args.kept.now.replies in
    let all = subst (λ (l : List Key). AreKnown s kept l) (sym c.settled-key-items.ensures) c.requires in (
      keeping_more s c.args.place kept c.settled-key-items.result.now c.loop-key.key-index _
          c.loop-key.kept.replies all c.loop-key-test.true c.loop-key.invariant.0 c.keep.new.kept.replies
          c.keep.ensures.keeps,
      c.keep.ensures.room
          (known_in s c.args.place kept c.settled-key-items.result.now c.loop-key.key-index _
          c.loop-key.kept.replies all c.loop-key-test.true c.loop-key.invariant.0)
          ∙ c.loop-key.invariant.1,
    )
