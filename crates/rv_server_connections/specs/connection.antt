-- What a reader must agree with: all that the public contracts and the laws cite.
pub mod Traffic
pub mod Steps
pub mod History
-- What the fields hold: the model, private clauses and proofs cite it.
pub mod Fields
pub mod Answering
