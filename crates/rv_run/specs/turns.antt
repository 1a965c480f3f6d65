-- What a reader must agree with: all that the public contracts and the laws cite.
pub mod Laws
pub mod Lines
pub mod Outcomes
pub mod Run
-- What only private clauses and proofs cite.
pub mod Body
pub mod Unanswered
