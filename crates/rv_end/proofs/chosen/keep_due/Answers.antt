-- What is left are the rows that are due, each of which was there before.
use Rattle.std.proofs.Common.{rules, subst, sym}
use Rattle.std.specs.List.{All}
use Rattle.std.proofs.lemmas.Fn.{filter_same}
use Rattle.std.proofs.lemmas.List.Elements.{All-filter}
use Rattle.rv_end.specs.Chosen.{is_due}
use Rattle.rv_end.specs.Told.{IsKeyed}
use Rattle.rv_end.proofs.chosen.keep_due.Goals as goal

pub returns-clause-kept : goal.returns-clause-kept
returns-clause-kept c =
    filter_same _ (is_due c.args.uptime c.args.older c.args.tried.now) _ (λ x b f' k. search rules) _ _
    c.retain.ensures.filtered

pub returns-clause-keyed : goal.returns-clause-keyed
returns-clause-keyed c all =
    subst (All IsKeyed)
    (sym (filter_same _ (is_due c.args.uptime c.args.older c.args.tried.now) _ (λ x b f' k. search rules) _ _
    c.retain.ensures.filtered))
    (All-filter (is_due c.args.uptime c.args.older c.args.tried.now) IsKeyed _ all)
