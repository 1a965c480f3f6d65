-- The lemmas that the proofs of this crate share.
pub mod Items
pub mod OfCalls
pub mod OfLines
