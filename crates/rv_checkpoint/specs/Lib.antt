-- What a reader must agree with: all that the public contracts and the laws cite.
pub mod Fields
pub mod Kinds
pub mod Saying
pub mod Written
pub mod Reading
pub mod Giving
pub mod Laws
