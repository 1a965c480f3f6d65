-- What a reader must agree with: all that the public contracts and the laws cite.
pub mod Process
pub mod Outcomes
pub mod Link
pub mod Calls
pub mod Laws
-- What only private clauses and proofs cite.
pub mod Faults
pub mod Reading
