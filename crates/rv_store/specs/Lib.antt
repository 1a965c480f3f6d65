-- What a reader must agree with: all that the public contracts cite.
pub mod Entered
pub mod Epochs
pub mod Format
pub mod Found
pub mod Lasting
pub mod Reading
pub mod Resumed
pub mod Store
-- What the laws of a reader rest on.
pub mod Resuming
pub mod Joined
pub mod WholeLines
pub mod servers
pub mod keeping
