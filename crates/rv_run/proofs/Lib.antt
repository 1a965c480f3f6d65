-- The lemmas on what was read and printed, for the runs above too.
pub mod Faulting
pub mod Giving
pub mod Printing
pub mod Sending
pub mod ShortTexts
pub mod OfCalls
pub mod OfTurns
pub mod OfPlay
pub mod OfInspect
