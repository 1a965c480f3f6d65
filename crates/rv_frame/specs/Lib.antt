-- What a reader must agree with: all that the public contracts and the laws cite.
pub mod Cut
pub mod Stream
pub mod Sink
pub mod Lasting
pub mod Source
pub mod Laws
-- What the tests' devices promise.
pub mod Testing
-- What the fields of a `Frames` hold: its model and invariant, private clauses and proofs cite it.
pub mod Held
