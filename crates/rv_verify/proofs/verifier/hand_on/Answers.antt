-- Where nothing is asked all accounts are noted alike; else the entry is the line's.
use Rattle.std.proofs.Common.{subst, sym}
use Rattle.rv_account.specs.Account.{with_entry}
use Rattle.rv_account.specs.declared.entry.Entry.{Entry}
use Rattle.rv_replies.specs.Known.{HasPassedBy}
use Rattle.rv_replies.specs.Standing.{HasNoted}
use Rattle.rv_replies.proofs.Taking.{notes_any}
use Rattle.rv_verify.proofs.verifier.hand_on.Goals as goal

pub returns-then-asks_nothing-clause-noted : goal.returns-then-asks_nothing-clause-noted
returns-then-asks_nothing-clause-noted c a e says by noted =
    notes_any c.args.records.now a (with_entry a e) (c.asks_nothing.ensures.0 c.if-asks_nothing.true) noted

pub returns-clause-noted : goal.returns-clause-noted
returns-clause-noted c a e says by noted =
    let same = c.in_ok-entry.ensures.same e says in
    subst (λ (x : Entry). HasNoted c.pass.new.self (with_entry a x)) same
    (c.in_ok-pass.ensures.stands a (subst (HasPassedBy c.args.machine.now a) (sym same) by) noted)
