-- The lemmas that the proofs of this crate share.
pub mod Cutting
pub mod Ends
pub mod Forms
pub mod Progress
pub mod Answering
