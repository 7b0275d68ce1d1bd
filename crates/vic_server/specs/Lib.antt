pub mod Keeping
pub mod Changes
pub mod Causes
pub mod Replay
