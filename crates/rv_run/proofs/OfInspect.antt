-- The lemmas that the proofs of this crate share.
pub mod Finding
pub mod SameLine
pub mod Counted
pub mod Printed
pub mod Reported
pub mod Sending
