-- What a reader must agree with: all that the public contracts cite.
pub mod Accounts
pub mod Audits
pub mod Verified
-- What private clauses cite.
pub mod Compacting
pub mod Progress
pub mod Verifying
