-- The rule has what the steps set.
use Rattle.rv_words.proofs.Listing.{built_rule}
use Rattle.rv_words.proofs.listed.named_option.Goals as goal

pub returns-clause-rule : goal.returns-clause-rule
returns-clause-rule c = (built_rule c.new.result c.value_names.result c.required.result c.action.result
    c.default_values.result c.help.result c.args.option.now.values c.args.option.now.usual
    c.args.option.now.required c.args.option.now.action c.args.option.now.help _ c.value_names.ensures
    c.required.ensures c.action.ensures c.default_values.ensures c.help.ensures c.new.ensures.rule
    c.new.ensures.optional.1).0

pub returns-clause-local : goal.returns-clause-local
returns-clause-local c = (built_rule c.new.result c.value_names.result c.required.result c.action.result
    c.default_values.result c.help.result c.args.option.now.values c.args.option.now.usual
    c.args.option.now.required c.args.option.now.action c.args.option.now.help _ c.value_names.ensures
    c.required.ensures c.action.ensures c.default_values.ensures c.help.ensures c.new.ensures.rule
    c.new.ensures.optional.1).1
