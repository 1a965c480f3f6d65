-- What a reader must agree with.
pub mod Lines
pub mod Progress
pub mod Report
pub mod Statuses
-- What private clauses cite.
pub mod Texts
