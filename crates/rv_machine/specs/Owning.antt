-- What always holds of a machine.
use Rattle.rv_machine.specs.declared.tables.Holdings.{Holdings}
use Rattle.rv_machine.specs.Machines.{IsWhole, state_in}
use Rattle.rv_machine.specs.Numbering.{AreNumbered}

-- its tables fit each other and a state, with room to list all that wait, and its sessions are numbered
pub record IsMachine (m : Holdings) : Type 0 where
  pub whole : IsWhole m
  pub numbered : AreNumbered (state_in m)
