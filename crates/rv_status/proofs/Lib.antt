-- Lemmas on bytes of frames.
pub mod Framing
-- Lemmas on values that are observed.
pub mod Observing
-- Lemmas on tokens and texts.
pub mod Told
-- Lemmas on the turns of a visit.
pub mod Turns
