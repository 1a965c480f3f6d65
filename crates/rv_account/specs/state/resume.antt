-- Which states a machine can resume from, and the laws of such states.
pub mod Suiting
pub mod Resuming
pub mod Checking
pub mod Laws
