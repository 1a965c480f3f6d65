mod Moments
mod Mixing
mod Holding
mod Causes
mod Texts
pub mod Lines
mod Appended
mod Scan
mod Zeros
mod Reopened
mod Adding
mod Filling
mod Rooming
mod Looking
mod Handed
mod Clearing
mod Calls
mod Memories
mod Cleared
mod Cutting
mod Beginning
mod FailingDevices
mod Unchanged
mod Systems
pub mod OfFolders
