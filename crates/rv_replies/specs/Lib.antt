-- What a reader must agree with: all that the public contracts cite.
pub mod Firsts
pub mod Known
pub mod Lines
pub mod Standing
-- What only private clauses and proofs cite.
pub mod Ending
pub mod Noting
pub mod Reading
pub mod findings
