-- What a reader must agree with: all that the public contracts and the laws cite.
pub mod Verdicts
pub mod Ends
pub mod Noting
pub mod Recording
pub mod Standing
pub mod Stages
pub mod Ongoing
pub mod Laws
pub mod Naming
-- What only private clauses and proofs cite.
pub mod Reading
pub mod follow
