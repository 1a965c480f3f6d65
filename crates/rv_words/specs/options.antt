-- The definitions that the contracts cite.
pub mod Epochs
pub mod Faults
pub mod Laws
pub mod Numbers
pub mod Options
pub mod Words
