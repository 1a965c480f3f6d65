-- The definitions that the contracts cite.
pub mod Statuses
pub mod Turns
pub mod Wishes
