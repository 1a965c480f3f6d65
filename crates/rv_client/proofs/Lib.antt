-- The lemmas that the proofs of this crate share.
pub mod Asking
pub mod Tries
pub mod Frames
pub mod OneOutcome
