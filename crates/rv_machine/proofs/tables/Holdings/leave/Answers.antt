-- Its client had nothing that waits, and its request has a reply.
use Rattle.std.proofs.Common.{[], arith, refl}
use Rattle.rv_text.specs.Calls.{wait_of}
use Rattle.rv_session.specs.declared.client.LastRequest.TheVariants.{RepliedTo}
use Rattle.rv_account.specs.declared.entry.Act.TheVariants.{Arrive}
use Rattle.rv_account.specs.Account.{entry}
use Rattle.rv_machine.specs.Ending.{counted}
use Rattle.rv_machine.proofs.Concluded.{asked_in, concluded_ready}
use Rattle.rv_machine.proofs.Leaving.{arrives_as, concluded_now, copied_entry, leaves_arrived}
use Rattle.rv_account.proofs.OfState.Resumed.Counts.{needs_one}
use Rattle.rv_machine.proofs.tables.Holdings.leave.Goals as goal

pub record-requires : goal.record-requires
record-requires c = let least = needs_one (wait_of c.args.call) in omega (arith, c.requires.may.space)

pub returns-clause-ready : goal.returns-clause-ready
returns-clause-ready c =
    c.record.ensures.ready
    (concluded_ready c.args.self.now c.args.key (RepliedTo c.args.call c.in_ok-copy.reply)
    c.conclude.new.self
    c.requires.may.ready c.requires.may.next refl c.conclude.ensures) c.requires.may.time
    (let least = needs_one (wait_of c.args.call) in omega (arith, c.requires.may.space))

pub returns-clause-arrives : goal.returns-clause-arrives
returns-clause-arrives c =
    arrives_as c.args.self.now
    (counted (asked_in c.args.self.now c.args.key (RepliedTo c.args.call c.in_ok-copy.reply)) c.args.moment)
    c.record.new.self c.args.moment c.args.key c.args.call
    (entry c.args.moment (Arrive c.args.key c.args.call) [])
    c.record.result
    (concluded_now c.args.self.now c.record.new.self c.args.moment c.args.key
    (RepliedTo c.args.call c.in_ok-copy.reply) c.conclude.new.self c.conclude.ensures
    c.record.ensures.counted)
    (copied_entry c.record.result c.args.moment c.args.key c.args.call c.in_ok-copy.copy c.none.result []
    c.record.ensures.entry c.in_ok-copy.ensures.copy c.none.ensures)
    (leaves_arrived c.args.self.now c.args.moment c.args.key c.args.call c.in_ok-copy.reply c.requires.may
    c.requires.alone c.requires.leaves c.in_ok-copy.ensures.reply)
