-- What a reader must agree with: what an account says, which are legal, and what a step is.
pub mod Counting
pub mod Waiting
pub mod Sessions
pub mod Legal
pub mod Replies
pub mod StepLimits
pub mod Reach
pub mod Steps
pub mod Resting
pub mod Limits
pub mod Order
pub mod Lines
