-- What a reader must agree with: all that the public contracts and the laws cite.
pub mod Counting
pub mod Waiting
pub mod Sessions
pub mod Legal
pub mod Replies
pub mod Steps
pub mod Limits
pub mod Verdicts
pub mod Order
pub mod Laws
-- What the models of `Book` and `Verdict` say: the invariant, `IsSound` in `Tables`, and a verdict's stamp;
-- private clauses cite these too.
pub mod Saying
pub mod Tables
-- What only private clauses and proofs cite.
pub mod Operations
pub mod reply_cache
pub mod lines
