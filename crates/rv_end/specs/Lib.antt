-- The definitions that the contracts cite.
pub mod Asking
pub mod Chosen
pub mod Ending
pub mod Faults
pub mod Lines
pub mod Told
