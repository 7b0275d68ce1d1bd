mod Crossing
pub mod Places
pub mod Recorded
pub mod Visits
