-- The state that a machine holds, and what a step of it reports.
pub mod Limiting
pub mod Machines
pub mod Ending
pub mod Numbering
pub mod Owning
pub mod Ticking
pub mod Entering
pub mod Arriving
pub mod Telling
pub mod Stepping
pub mod Needing
pub mod Taking
pub mod Redoing
pub mod Remaking
pub mod open_places
