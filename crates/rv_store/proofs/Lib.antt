-- The lemmas that the proofs of this crate share.
mod Begun
mod Formats
mod Fronts
mod KeptNames
mod Nearest
mod NewAccount
mod Printed
mod ReadOn
mod Refused
mod Reopened
mod Resumed
mod Told
pub mod OfServers
pub mod OfKeeping
