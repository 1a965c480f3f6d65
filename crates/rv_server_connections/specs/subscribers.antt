-- What a reader must agree with: all that the public contracts cite.
pub mod Subscription
pub mod Subscribers
pub mod Pairs
-- What the fields hold: the model, private clauses and proofs cite it.
pub mod Indexed
