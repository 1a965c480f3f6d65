-- A write at the client that the look-up finds replaces what is kept of it, and leaves the others and the
-- room.
use Rattle.std.proofs.Common.{sym, ap, is_some, ◌∙◌}
use Rattle.std.specs.Option.{option_copied_mut}
use Rattle.std.specs.FinMap.{get, insert}
use Rattle.rv_session.proofs.Mapping.{get_kept, map_put}
use Rattle.rv_book.specs.reply_cache.KeptTable.{KeptTable}
use Rattle.rv_book.proofs.reply_cache.table.KeptReplies.renew.Goals as goal

pub returns-in-Some-clause-known : goal.returns-in-Some-clause-known
returns-in-Some-clause-known c =
    ap is_some (ap option_copied_mut (sym c.in-Some.is) ∙ c.get_mut.ensures.value
    ∙ sym (get_kept c.self.inside.replies.entries c.args.client)
    ∙ ap (λ (t : KeptTable). get t.replies c.args.client) c.self.view_is)

pub returns-in-Some-clause-replies : goal.returns-in-Some-clause-replies
returns-in-Some-clause-replies c known =
    let there = sym (ap is_some (ap option_copied_mut (sym c.in-Some.is) ∙ c.get_mut.ensures.value)) in
    let wrote = c.get_mut.follows.holds c.args.kept in
    map_put c.self.inside.replies.entries (c.get_mut.follows.lender c.args.kept).entries c.args.client
    c.args.kept (wrote.3 there).0
    ∙ ap (λ (t : KeptTable). insert t.replies c.args.client c.args.kept) c.self.view_is

pub returns-clause-known : goal.returns-clause-known
returns-clause-known c =
    ap is_some (ap option_copied_mut (sym c.in_default.is) ∙ c.get_mut.ensures.value
    ∙ sym (get_kept c.self.inside.replies.entries c.args.client)
    ∙ ap (λ (t : KeptTable). get t.replies c.args.client) c.self.view_is)
