-- The request that waited is cancelled.
use Rattle.std.proofs.Common.{◌∷◌, ◌∙◌, [], ap, arith, sym, subst}
use Rattle.rv_account.specs.Account.{entry}
use Rattle.rv_account.specs.declared.entry.Act.TheVariants as act
use Rattle.rv_account.specs.declared.entry.Entry.{Entry}
use Rattle.rv_session.specs.Clients.{place_waiting}
use Rattle.rv_text.specs.declared.answer.Reply.TheVariants.{Cancelled}
use Rattle.rv_text.specs.declared.message.Message.TheVariants.{Cancel}
use Rattle.rv_machine.specs.declared.tables.Holdings.{Holdings}
use Rattle.rv_machine.specs.declared.machine.Said.TheVariants as said
use Rattle.rv_machine.specs.Ending.{counted}
use Rattle.rv_machine.specs.Machines.{MovesBy, state_in}
use Rattle.rv_machine.specs.Numbering.{AreNumbered}
use Rattle.rv_machine.proofs.CancelMoves.{ends_cancel}
use Rattle.rv_machine.proofs.EndedLast.{space_after, waits_for, waits_in}
use Rattle.rv_machine.proofs.Numbered.{ended_numbered}
use Rattle.rv_machine.proofs.tables.Holdings.end_wait.Goals as goal

pub end-requires-clause-waits : goal.end-requires-clause-waits
end-requires-clause-waits c =
    let asks = c.requires.waits.asks in
    let s = state_in c.args.self.now in
    waits_in s c.args.key.client c.args.place
    (waits_for s c.requires.ready.consistent c.args.key.client c.args.place asks.state asks.of_key.there
    (ap place_waiting asks.request_is))

pub record-requires : goal.record-requires
record-requires c =
    let space = space_after c.args.self.now c.end.new.self c.requires.ready c.args.place Cancelled
    c.end.ensures.ends in
    omega arith

pub returns-clause-ready : goal.returns-clause-ready
returns-clause-ready c =
    c.record.ensures.ready c.end.ensures.ready c.requires.time
    (space_after c.args.self.now c.end.new.self c.requires.ready c.args.place Cancelled c.end.ensures.ends)

pub returns-clause-numbered : goal.returns-clause-numbered
returns-clause-numbered c =
    subst (λ (m : Holdings). AreNumbered (state_in m)) (sym c.record.ensures.counted)
    (ended_numbered c.args.self.now c.end.new.self c.args.place Cancelled c.end.ensures.ends
    c.requires.numbered)

pub returns-clause-moves : goal.returns-clause-moves
returns-clause-moves c limits =
    let old = c.args.self.now in
    let made = c.record.ensures.entry
    ∙ ap (entry c.args.moment (act.Cancel c.args.key)) c.none-partners.ensures in
    subst (λ (m : Holdings). MovesBy limits old m c.args.moment (Cancel c.args.key)
    (c.record.result ∷ [])
    (said.Told c.args.key)) (sym c.record.ensures.counted)
    (subst (λ (e : Entry). MovesBy limits old (counted c.end.new.self c.args.moment) c.args.moment
    (Cancel c.args.key)
    (e ∷ []) (said.Told c.args.key)) (sym made)
    (ends_cancel limits old c.end.new.self c.requires.ready c.requires.numbered c.args.moment c.args.key
    c.args.place
    c.requires.waits c.end.ensures.ends))
