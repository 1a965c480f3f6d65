pub mod Changes
pub mod EpochBegins
pub mod ListedEpochs
pub mod MemoryNames
pub mod SystemNames
