-- What a reader must agree with: all that the public contracts and the laws cite.
pub mod Engines
pub mod Calls
pub mod Handing
pub mod EngineRuns
-- What private clauses and proofs cite.
pub mod Noting
