-- What a look-up lends is what the map has.
use Rattle.std.proofs.Common.{Option, sym, ap, ◌∙◌, option_and_then}
use Rattle.std.specs.Option.{option_copied}
use Rattle.std.specs.FinMap.{get}
use Rattle.rv_session.specs.declared.kept.Kept.{Kept}
use Rattle.rv_session.proofs.Mapping.{get_kept}
use Rattle.rv_book.specs.reply_cache.KeptTable.{KeptTable}
use Rattle.rv_book.proofs.reply_cache.table.KeptReplies.get.Goals as goal

pub returns-in-Some : goal.returns-in-Some
returns-in-Some c =
    let read = ap option_copied (sym c.in-Some.is) ∙ c.get.ensures.value
    ∙ sym (get_kept c.self.inside.replies.entries c.args.client)
    ∙ ap (λ (t : KeptTable). get t.replies c.args.client) c.self.view_is in
    ap (option_and_then (λ (k : Option Kept). k)) read

pub returns-in-None : goal.returns-in-None
returns-in-None c =
    let read = ap option_copied (sym c.in-None.is) ∙ c.get.ensures.value
    ∙ sym (get_kept c.self.inside.replies.entries c.args.client)
    ∙ ap (λ (t : KeptTable). get t.replies c.args.client) c.self.view_is in
    ap (option_and_then (λ (k : Option Kept). k)) read
