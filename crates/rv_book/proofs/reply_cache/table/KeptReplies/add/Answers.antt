-- An insertion of a new client keeps this of it, and leaves the others.
use Rattle.std.proofs.Common.{ap, ◌∙◌}
use Rattle.std.specs.FinMap.{insert}
use Rattle.rv_session.proofs.Mapping.{map_put}
use Rattle.rv_book.specs.reply_cache.KeptTable.{KeptTable}
use Rattle.rv_book.proofs.reply_cache.table.KeptReplies.add.Goals as goal

pub returns-clause-replies : goal.returns-clause-replies
returns-clause-replies c =
    let updates = rw c.unwrap.ensures at c.insert.ensures.updates in
    map_put c.self.inside.replies.entries c.insert.new.self.entries c.args.client c.args.kept updates.0
    ∙ ap (λ (t : KeptTable). insert t.replies c.args.client c.args.kept) c.self.view_is
