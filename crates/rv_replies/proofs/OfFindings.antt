-- The lemmas that the proofs of this crate share.
pub mod Judged
pub mod KeptTold
pub mod Names
pub mod OneFinding
pub mod Suited
