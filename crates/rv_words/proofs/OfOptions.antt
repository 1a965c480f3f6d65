-- The lemmas that the proofs of this crate share.
pub mod Bare
pub mod Keeping
pub mod Refusals
