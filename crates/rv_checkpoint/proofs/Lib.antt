-- The lemmas that the proofs of this crate share.
pub mod FirstWords
pub mod Cuts
pub mod Decoded
pub mod SaidOnce
pub mod AllSaid
pub mod ReadOn
pub mod OneCall
pub mod WrittenLines
pub mod Given
