-- The lemmas that the proofs of this crate share.
pub mod Settling
pub mod CallsSoFar
pub mod RecordsSoFar
