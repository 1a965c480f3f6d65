-- What a reader must agree with: all that the public contracts cite.
pub mod AnsweredFrames
pub mod Works
pub mod Serving
pub mod Books
-- What only private clauses and proofs cite.
pub mod Reading
pub mod Asking
pub mod Sending
pub mod Progress
pub mod locked
