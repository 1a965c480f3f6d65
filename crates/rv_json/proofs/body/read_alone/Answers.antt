-- As many members as the value has, and each of its own among them.
use Rattle.std.proofs.Common.{refl, sym, ◌∙◌}
use Rattle.rv_json.proofs.Counts.{members_counted}
use Rattle.rv_json.proofs.body.read_alone.Goals as goal

pub returns-then-is_within-clause-alone : goal.returns-then-is_within-clause-alone
returns-then-is_within-clause-alone g c = record {
  found = c.in_ok-value.ensures;
  whole = members_counted c.args.map.entries ∙ (sym c.len-count.ensures.len
      ∙ (c.if-count-member_count.true ∙ c.member_count.ensures));
  fits = c.if-is_within.ensures.0 refl;
}
