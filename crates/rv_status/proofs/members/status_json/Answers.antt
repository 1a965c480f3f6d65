-- The writer held nothing before.
use Rattle.std.proofs.Common.{◌++◌, ap, ◌∙◌}
use Rattle.rv_status.specs.Values.{status_value, tokens_of}
use Rattle.rv_status.proofs.Told.{value_told}
use Rattle.rv_status.proofs.members.status_json.Goals as goal

pub returns : goal.returns
returns c =
    value_told (status_value c.args.status.now) _ _ _ c.into_inner.ensures.items
    (c.in_ok-put_status.ensures.before ∙ c.new-writer.ensures.before ∙ c.in_ok-with_capacity.ensures.items)
    (c.in_ok-put_status.ensures.tokens
    ∙ ap (λ ts. ts ++ tokens_of (status_value c.args.status.now)) c.new-writer.ensures.tokens)
