-- What a reader must agree with: all that the public contracts and the laws cite.
pub mod Faults
pub mod Laws
-- And what breaks each rule.
-- What a reader must agree with: all that the public contracts cite.
pub mod AccountRules
-- What the tables are to the entries that were passed, which a reader of an audit need not know.
pub mod Passed
pub mod Marks
pub mod Lines
pub mod Opens
pub mod Sessions
-- What only private clauses and proofs cite.
pub mod Words
