-- What a reader must agree with: all that the public contracts cite.
pub mod Outcomes
-- What only private clauses and proofs cite.
pub mod Told
pub mod state_rules
