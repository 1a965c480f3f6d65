-- What the tables of open places say.
pub mod OpenMap
pub mod Indexed
pub mod Reopening
