-- The definitions that the contracts cite.
pub mod Beginning
pub mod Durations
pub mod Helping
pub mod Listed
pub mod Program
pub mod Recorded
pub mod Verifying
pub mod Compacting
pub mod Versions
pub mod shell
pub mod options
pub mod command
