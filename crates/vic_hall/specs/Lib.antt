pub mod Hosting
pub mod Jobs
pub mod Recording
pub mod Runs
pub mod Steps
