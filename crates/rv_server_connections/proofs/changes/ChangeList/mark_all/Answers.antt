-- One number after another is listed.
use Rattle.std.proofs.Common.{arith, ◌∙◌}
use Rattle.std.proofs.lemmas.List.Elements.{Contains-get_or}
use Rattle.rv_server_connections.proofs.Listing.{lists_more, lists_whole}
use Rattle.rv_server_connections.proofs.changes.ChangeList.mark_all.Goals as goal

pub mark-requires-clause-room : goal.mark-requires-clause-room
mark-requires-clause-room c =
    let own = c.requires.room _ (Contains-get_or c.args.numbers.now c.loop-number.number-index 0
    c.loop-number-test.true) in
    omega (arith, own, c.loop-number.invariant.1)

pub loop-number-preserved : goal.loop-number-preserved
loop-number-preserved c = (
  c.mark.ensures.sound,
  c.mark.ensures.room ∙ c.loop-number.invariant.1,
  lists_more c.args.self.now.numbers.items c.loop-number.self.numbers.items c.mark.new.self.numbers.items
      c.args.numbers.now c.loop-number.number-index c.loop-number-test.true c.loop-number.invariant.2
      c.mark.ensures.listed,
)

pub returns-clause-listed : goal.returns-clause-listed
returns-clause-listed c =
    lists_whole c.args.self.now.numbers.items c.loop-number.self.numbers.items c.args.numbers.now
    c.loop-number.number-index (omega (arith, c.loop-number-test.false)) c.loop-number.invariant.2
