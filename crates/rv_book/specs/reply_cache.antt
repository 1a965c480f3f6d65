-- What a reader must agree with: all that the public contracts cite.
pub mod Keeping
pub mod Table
-- What a reader must agree with: all that the public contracts cite.
pub mod Recalling
pub mod KeptTable
