-- What a reader must agree with: all that the public contracts and the laws cite.
pub mod Laws
pub mod Lines
pub mod Reading
pub mod Written
-- What only private clauses and proofs cite.
pub mod Entries
pub mod Faults
pub mod Pieces
-- What a reader must agree with: all that the public contracts cite.
pub mod EntryText
