-- What a reader must agree with: all that the public contracts cite.
pub mod World
pub mod Limits
pub mod Events
pub mod Runs
pub mod Headline
pub mod Laws
-- What private clauses and proofs cite, here and in the crate above, whose model's invariant stands in
-- `Parts`.
pub mod Processes
pub mod Table
pub mod Sound
pub mod Parts
