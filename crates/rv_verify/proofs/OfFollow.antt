pub mod Redone
pub mod OfAsked
