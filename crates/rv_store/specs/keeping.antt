-- The definitions that the contracts cite.
pub mod Boots
pub mod Checkpoints
pub mod Files
pub mod Kept
