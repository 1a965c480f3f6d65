-- The lemmas that the proofs of this crate share.
pub mod Writing
pub mod Telling
pub mod Kept
pub mod Compacted
pub mod Following
pub mod Reporting
