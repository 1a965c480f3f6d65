-- What a reader must agree with: all that the public contracts cite.
pub mod Faults
pub mod Input
pub mod Output
pub mod calls
pub mod turns
pub mod play
pub mod inspect
