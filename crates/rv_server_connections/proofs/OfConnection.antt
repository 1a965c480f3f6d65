pub mod Marks
pub mod Sizes
pub mod Kept
