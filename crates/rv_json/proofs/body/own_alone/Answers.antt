-- As many members as the value has, and each of its own among them.
use Rattle.std.proofs.Common.{refl, ◌∙◌}
use Rattle.rv_json.proofs.InOrder.{alone_among}
use Rattle.rv_json.proofs.body.own_alone.Goals as goal

pub returns-then-is_within : goal.returns-then-is_within
returns-then-is_within g c =
    alone_among _ g.B.Body.form c.args.fields.now c.args.value c.requires c.has_members.ensures
    (c.if-fields-member_count.true ∙ c.member_count.ensures) (c.if-is_within.ensures.0 refl)
