pub mod Room
pub mod Pairs
pub mod Servers
pub mod Serving
pub mod Lacking
pub mod Leaving
pub mod Going
pub mod OfCrashes
