-- What a look-up finds is what the table says.
use Rattle.rv_world.proofs.OfParts.Words.{◌∙◌, ap, sym, Option, option_map, option_and_then, process_in}
use Rattle.rv_world.proofs.OfParts.Words.{ClientTable, running_of, Client, Running}
use Rattle.rv_world.proofs.OfParts.Tables.{kept_process, mapped_copied, running_found}
use Rattle.rv_world.proofs.parts.clients.Clients.process.Goals as goal

pub returns-in_err-get : goal.returns-in_err-get
returns-in_err-get c =
    ap (λ o. option_map (λ process'. process_in process'.now) o) c.from_residual.ensures
    ∙ ap (option_and_then kept_process) c.in_err-get.ensures.value
    ∙ sym (running_found _ c.args.client) ∙ ap (λ (t : ClientTable). running_of t c.args.client)
    c.self.view_is

pub returns : goal.returns
returns c =
    sym (mapped_copied c.as_ref.result) ∙ ap (λ (o : Option Running). option_map process_in o)
    c.as_ref.ensures.value
    ∙ ap (λ (o : Option Client). option_and_then kept_process o) c.in_ok-get.ensures.value
    ∙ sym (running_found _ c.args.client) ∙ ap (λ (t : ClientTable). running_of t c.args.client)
    c.self.view_is
