pub mod Owns
pub mod Parted
pub mod State
pub mod Passing
pub mod Finding
