-- What a reader must agree with: all that the public contracts and the laws cite.
pub mod Fates
pub mod Laws
pub mod Names
pub mod Statuses
pub mod Tallies
pub mod Findings
-- What only private clauses and proofs cite.
pub mod Judging
