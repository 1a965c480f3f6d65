-- What a reader must agree with, all that public contracts and laws cite, in the order of reading:
pub mod Calls
pub mod Versions
pub mod Members
pub mod Rows
pub mod Limits
pub mod Number
pub mod Bodies
pub mod Laws
-- For private clauses, what the decoder finds among the members of an object, and what the encoder writes:
pub mod Reading
pub mod Writing
