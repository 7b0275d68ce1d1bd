pub mod Lists
pub mod Words
pub mod Headers
pub mod Queues
pub mod Servers
pub mod Tests
pub mod Scenes
pub mod Seats
pub mod Events
pub mod Counting
pub mod Keeping
pub mod Attacks
pub mod Sent
pub mod Lines
pub mod Reached
pub mod Kept
pub mod Honest
pub mod Plays
pub mod Runs
pub mod Outcomes
pub mod Halted
pub mod Prints
pub mod Agreed
pub mod Tampering
mod Ending
mod Going
