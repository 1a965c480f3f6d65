-- The total and the seat rise by what the message added.
use Rattle.std.proofs.Common.{arith}
use Rattle.rv_server.proofs.locked.shared.serve_message.Goals as goal

pub invariant_of-locked : goal.invariant_of-locked
invariant_of-locked g c = omega arith

pub returns-clause-share : goal.returns-clause-share
returns-clause-share g c = omega arith
