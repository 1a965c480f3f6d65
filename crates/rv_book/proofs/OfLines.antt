-- The lemmas that the proofs of this crate share.
pub mod Cutting
pub mod Behind
pub mod Plain
pub mod Commas
pub mod Fields
pub mod Heads
pub mod Entering
pub mod OneReading
pub mod Booked
pub mod OneLine
pub mod ReadBack
pub mod Turns
-- The lemmas that the proofs of this crate share.
pub mod Texts
