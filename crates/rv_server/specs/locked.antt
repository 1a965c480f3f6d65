-- The desk behind its lock: its stamps, what it is asked for a frame, and the frame that answers.
pub mod Stamps
pub mod Books
pub mod FrameStamps
pub mod Asking
pub mod Writing
