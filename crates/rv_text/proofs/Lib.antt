pub mod Objects
pub mod Sizes
pub mod Texts
pub mod ByKind
pub mod Sound
pub mod Ordered
pub mod Kept
pub mod Steps
pub mod Readers
pub mod AnswerReaders
pub mod Decoding
pub mod Fitting
pub mod Written
pub mod Numbers
mod ByWord
