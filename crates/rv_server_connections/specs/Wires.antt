-- What contracts see of the connections of a hub.
use Rattle.rv_server_connections.specs.declared.wires.Wires.{Wires}
use Rattle.rv_server_connections.specs.Connections.{Tally, WiresState}
use Rattle.rv_server_connections.specs.Fields.{slots_state}
use Rattle.rv_server_connections.specs.Noting.{tally_of}

abbrev pub wires_in : Wires → WiresState
wires_in all = slots_state all.noted.slots

abbrev pub tally_in : Wires → Tally
tally_in all = tally_of all.noted
