-- A write through the look-up changes what stands there.
use Rattle.std.proofs.Common.{is_some, sym, ap, ◌∙◌}
use Rattle.std.specs.Option.{option_copied_mut}
use Rattle.rv_replies.specs.Ending.{changed}
use Rattle.rv_replies.proofs.Writing.{put_changes}
use Rattle.rv_replies.proofs.fates.Fates.change.Goals as goal

pub returns-in-Some : goal.returns-in-Some
returns-in-Some c =
    let read = ap option_copied_mut (sym c.in-Some.is) ∙ c.get_mut.ensures.value in
    let there = sym (ap is_some read) in
    let wrote = c.get_mut.follows.holds c.turn.new.fate in
    put_changes c.args.self.now (record { fates = c.get_mut.follows.lender c.turn.new.fate }) c.args.key.now
    c.of.result c.of.ensures (changed c.args.change) c.in-Some.fate.now c.turn.new.fate read
    c.turn.ensures
    (wrote.3 there).0
