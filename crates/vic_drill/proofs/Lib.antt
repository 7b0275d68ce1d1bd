pub mod Acts
pub mod Waiting
mod Called
pub mod Honest
pub mod Drilled
