-- The definitions that the contracts and the laws cite.
pub mod Command
pub mod Laws
