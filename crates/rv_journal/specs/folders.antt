pub mod Begun
pub mod Folder
pub mod Memory
pub mod Present
pub mod System
