-- A write at the client that the look-up finds.
use Rattle.rv_world.proofs.OfParts.Words.{◌∙◌, ap, sym, subst, ℕ, List, Option, option_map, option_and_then}
use Rattle.rv_world.proofs.OfParts.Words.{process_in, ClientTable, running_of, with_process, StandsInTable}
use Rattle.rv_world.proofs.OfParts.Words.{Client, Running}
use Rattle.rv_world.proofs.OfParts.Tables.{table_of, kept_process, running_found, stands_found, table_set}
use Rattle.rv_world.proofs.parts.clients.Clients.replace_process.Goals as goal

pub unreachable-requires : goal.unreachable-requires
unreachable-requires c =
    stands_found _ c.args.client (subst (λ (t : ClientTable). StandsInTable t c.args.client)
    (sym c.self.view_is) c.requires) c.in-None.ensures.value

pub returns-clause-before : goal.returns-clause-before
returns-clause-before c =
    ap (λ (o : Option Running). option_map process_in o) c.replace.ensures.value
    ∙ ap (λ (o : Option Client). option_and_then kept_process o) c.in-Some.ensures.value
    ∙ sym (running_found _ c.args.client) ∙ ap (λ (t : ClientTable). running_of t c.args.client)
    c.self.view_is

pub returns-clause-after : goal.returns-clause-after
returns-clause-after c =
    ap (λ (es : List (ℕ × Client)). table_of es) (c.get_mut.follows.holds
    (record { newest = c.in-Some.entry.now.newest; process = c.replace.new.dest })).0
    ∙ table_set _ c.args.client c.in-Some.entry.now c.replace.new.dest (sym c.in-Some.ensures.value)
    ∙ ap (λ (t : ClientTable). with_process t c.args.client (option_map process_in c.replace.new.dest))
    c.self.view_is
    ∙ ap (λ (o : Option Running). with_process c.args.self.now c.args.client (option_map process_in o))
    c.replace.ensures.after
