-- The frames of the piece follow those before it.
use Rattle.std.proofs.Common.{None, rules, ◌≡◌}
use Rattle.rv_frame.proofs.Rows.{feeds_on}
use Rattle.rv_frame.proofs.held.Held.feed.Goals as goal

pub returns-in-None-clause-fed : goal.returns-in-None-clause-fed
returns-in-None-clause-fed c =
    let held = c.args.self.now in
    let open_end : held.bad ≡ None = search rules in
    feeds_on held.bytes.items c.args.piece.now _ held.whole held.bad _ _ open_end c.requires.front.within
    c.in_ok-extend_from_slice.ensures.ok c.cut_on.ensures.cut
