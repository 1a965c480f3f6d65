-- The lemmas that the proofs of this crate share.
pub mod Values
pub mod RecordWords
pub mod OwnWords
pub mod Helps
pub mod Listing
pub mod Cutting
pub mod OfOptions
pub mod OfCommand
pub mod OfShell
