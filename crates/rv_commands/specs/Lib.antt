-- The definitions that the contracts cite.
pub mod Asking
pub mod Leases
pub mod Lines
pub mod Pieces
pub mod Printed
pub mod Records
pub mod Statuses
