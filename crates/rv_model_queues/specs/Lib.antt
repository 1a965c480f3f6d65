-- What a reader must agree with: all that the public contracts cite.
pub mod Views
pub mod Parked
pub mod Meeting
pub mod Laying
