-- What a reader must agree with: the state of an account, what an entry makes of it, and a step of it.
pub mod State
pub mod After
pub mod Follows
pub mod Moves
pub mod Agreement
pub mod Kept
pub mod Settling
pub mod Laws
pub mod StepLaws
-- What a reader must agree with: all that the public contracts cite.
pub mod Standing
pub mod resume
pub mod waiting
