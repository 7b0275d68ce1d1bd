pub mod Changes
pub mod Turns
pub mod Told
pub mod Passes
