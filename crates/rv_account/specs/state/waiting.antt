-- Which requests wait in a state, and what time and a step make of them.
pub mod Waiting
pub mod Laws
