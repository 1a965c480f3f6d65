-- What a reader must agree with: all that the public contracts cite.
pub mod Offers
pub mod Queue
pub mod Meanings
pub mod Withdrawing
pub mod Above
-- What only private clauses, the invariant of a line and proofs cite.
pub mod Entries
pub mod Room
pub mod Slots
