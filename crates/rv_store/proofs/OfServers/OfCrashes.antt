pub mod Fronts
pub mod Effects
pub mod Around
pub mod Across
pub mod AsToday
pub mod Known
pub mod Turns
pub mod Remembered
