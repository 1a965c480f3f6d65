-- What a reader must agree with: all that the public contracts cite.
pub mod Account
pub mod Calls
pub mod Limits
pub mod rules
pub mod state
