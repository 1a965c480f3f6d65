-- What a reader must agree with: all that the public contracts cite.
pub mod EndWord
pub mod Calling
pub mod CallRuns
pub mod Records
