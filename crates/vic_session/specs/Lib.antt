pub mod Laws
pub mod Running
pub mod Sessions
pub mod Stepping
pub mod Talking
pub mod Talks
pub mod Wires
