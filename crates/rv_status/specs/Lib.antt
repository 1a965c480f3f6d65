-- The definitions that the contracts cite.
pub mod Begun
pub mod Frames
pub mod Histograms
pub mod Hosts
pub mod Pages
pub mod Rows
pub mod Samples
pub mod Standing
pub mod Texts
pub mod Values
pub mod Visits
