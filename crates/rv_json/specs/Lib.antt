-- What a reader must agree with, all that public contracts cite:
pub mod Bodies
pub mod Listed
pub mod Flat
pub mod Scan
pub mod Pair
pub mod Sorted
pub mod Finding
pub mod Alone
pub mod Writing
pub mod Limits
