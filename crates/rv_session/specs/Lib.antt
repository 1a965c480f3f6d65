-- What a reader must agree with: all that the public contracts cite.
pub mod OwedDuty
pub mod Kept
pub mod Table
pub mod Standings
pub mod Meanings
pub mod Clients
pub mod ClientStandings
pub mod ClientMeanings
pub mod ClientOrder
pub mod Claims
-- The map that entries are; and what only the invariants of the tables and proofs cite.
pub mod Entries
