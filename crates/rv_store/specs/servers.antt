-- What a reader must agree with: which hub is a server that crashes and goes on, and the laws.
pub mod Room
pub mod Serving
pub mod Laws
pub mod crashes
