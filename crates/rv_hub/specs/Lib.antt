-- What a reader must agree with: all that the public contracts and the laws cite.
pub mod Events
pub mod Turns
pub mod EventEffects
pub mod Pasts
pub mod HubRuns
pub mod HandedOut
pub mod Pairing
-- What the fields hold: the public contracts cite it as a whole, `IsHub`.
pub mod Hubs
-- What private clauses and proofs cite.
pub mod Steps
pub mod dispatcher
