-- The definitions that the contracts cite.
pub mod Oldest
pub mod Queues
pub mod Rows
pub mod Sights
pub mod log
