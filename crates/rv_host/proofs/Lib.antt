-- The lemmas that the proofs of this crate share.
pub mod Opened
pub mod Turning
