-- What a reader must agree with: all that the public contracts cite.
pub mod Views
pub mod Calls
pub mod Waiting
pub mod Rounds
pub mod CallRuns
pub mod Origins
pub mod Times
pub mod links
