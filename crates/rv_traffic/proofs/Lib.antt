-- The lemmas that the proofs of this crate share.
pub mod Tables
pub mod Held
pub mod WhatCame
pub mod WhatLeft
pub mod MoreToDo
pub mod Staying
pub mod InRound
pub mod Shared
pub mod Counted
pub mod CallsRun
pub mod OneDevice
pub mod OfLinks
