-- What a reader must agree with: all that the public contracts cite.
pub mod View
pub mod Telling
pub mod Effects
pub mod Order
pub mod Rest
pub mod Runs
-- What the fields hold: the public contracts cite it as a whole, `IsDispatcherSound` and `IsSteady`.
pub mod Fields
-- What private clauses and proofs cite.
pub mod Going
