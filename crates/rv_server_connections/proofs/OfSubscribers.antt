pub mod Ordered
pub mod Finding
pub mod Listed
pub mod Heard
