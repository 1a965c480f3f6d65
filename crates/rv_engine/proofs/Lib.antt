-- The lemmas that the proofs of this crate share.
pub mod Arrivals
pub mod Gathered
pub mod Noted
pub mod Looking
pub mod Through
pub mod Sure
pub mod Written
pub mod Left
pub mod Running
pub mod Telling
pub mod Stored
