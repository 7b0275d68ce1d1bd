pub mod Crossing
pub mod Logs
pub mod Weights
pub mod Sound
pub mod Seen
pub mod Contents
pub mod Caused
pub mod Polls
pub mod Refusals
mod Replays
