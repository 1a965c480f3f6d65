-- What a reader must agree with: all that the laws and the public contracts cite.
pub mod Ruling
pub mod Laws
-- What private clauses and proofs cite, here and in the crates above.
pub mod Walking
pub mod Rooming
