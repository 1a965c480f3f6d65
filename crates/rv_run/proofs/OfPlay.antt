-- The lemmas that the proofs of this crate share.
pub mod Saying
pub mod OneEvent
pub mod CanBeTold
pub mod Results
pub mod Playing
pub mod Running
