-- What a look-up finds is what the table says.
use Rattle.rv_world.proofs.OfParts.Words.{◌∙◌, ap, sym, Option, option_map, ClientTable, Client}
use Rattle.rv_world.specs.parts.Table.{newest_of}
use Rattle.rv_world.proofs.OfParts.Tables.{newest_found}
use Rattle.rv_world.proofs.parts.clients.Clients.newest.Goals as goal

pub returns-in_err-get : goal.returns-in_err-get
returns-in_err-get c =
    c.from_residual.ensures ∙ ap (λ (o : Option Client). option_map (λ (e : Client). e.newest) o)
    c.in_err-get.ensures.value
    ∙ sym (newest_found _ c.args.client) ∙ ap (λ (t : ClientTable). newest_of t c.args.client) c.self.view_is

pub returns : goal.returns
returns c =
    ap (λ (o : Option Client). option_map (λ (e : Client). e.newest) o) c.in_ok-get.ensures.value
    ∙ sym (newest_found _ c.args.client) ∙ ap (λ (t : ClientTable). newest_of t c.args.client) c.self.view_is
