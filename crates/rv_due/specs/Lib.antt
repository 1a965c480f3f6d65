pub mod Deadlines
pub mod Keeping
