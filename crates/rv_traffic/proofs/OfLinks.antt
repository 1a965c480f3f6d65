-- The lemmas that the proofs of this crate share.
pub mod Slots
pub mod Empty
pub mod Places
