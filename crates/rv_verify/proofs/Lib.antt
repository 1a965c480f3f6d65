-- The lemmas that the proofs of this crate share.
pub mod Opening
pub mod Passing
pub mod Fronts
pub mod Telling
pub mod Longest
pub mod Staging
pub mod Joining
pub mod Through
pub mod Running
pub mod Closing
pub mod Wider
pub mod Small
pub mod Agreeing
pub mod Meeting
pub mod Again
pub mod Recorded
pub mod Checkpointed
-- The lemma that a proof of this crate cites.
pub mod Told
mod WholeEnds
pub mod OfFollow
