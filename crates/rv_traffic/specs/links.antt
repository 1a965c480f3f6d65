-- What a reader must agree with: all that the public contracts cite.
pub mod Reading
pub mod Writing
pub mod Table
