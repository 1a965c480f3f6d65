-- What a reader must agree with: servers that crash and the world around them, and the laws.
pub mod Crashes
pub mod Laws
