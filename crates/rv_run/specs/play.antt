-- What a reader must agree with: all that the public contracts and the laws cite.
pub mod Reading
pub mod Turns
pub mod Plays
pub mod Laws
-- What only private clauses and proofs cite.
pub mod Parts
pub mod Told
