-- Of clients that rise the map that is collected is theirs.
use Rattle.std.proofs.Common.{rules}
use Rattle.std.specs.Ordering.{nat_cmp}
use Rattle.std.specs.BTreeMap.{IsFromIterResult}
use Rattle.rv_session.proofs.RisingStates.{collected_map, collected_ordered}
use Rattle.rv_session.proofs.clients.Clients.from_states.Goals as goal

pub invariant_of-result : goal.invariant_of-result
invariant_of-result c =
    let made : IsFromIterResult nat_cmp c.args.states.items c.in_ok-clients.clients = search rules in
    collected_ordered c.args.states.items c.requires.rise c.in_ok-clients.clients made c.args.most
    c.requires.most

pub returns : goal.returns
returns c =
    let made : IsFromIterResult nat_cmp c.args.states.items c.in_ok-clients.clients = search rules in
    let same = collected_map c.args.states.items c.requires.rise c.in_ok-clients.clients made in
    λ i. record { epoch = c.args.epoch; most = c.args.most; clients = same i }
