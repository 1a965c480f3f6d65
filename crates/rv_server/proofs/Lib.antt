-- The lemmas that the proofs of this crate share.
pub mod Rests
pub mod Intake
pub mod Getting
pub mod Answering
pub mod Advancing
pub mod Passing
pub mod OfLocked
