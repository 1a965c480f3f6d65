-- What a reader must agree with: all that the public contracts cite.
pub mod Connections
pub mod Wires
-- What the fields hold: the model, private clauses and proofs cite it.
pub mod Fields
pub mod Noting
-- What a table of connections holds.
pub mod Table
pub mod Lending
pub mod Flags
pub mod subscribers
pub mod connection
