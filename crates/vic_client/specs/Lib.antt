pub mod Kept
pub mod Shows
pub mod Sound
pub mod Pending
pub mod Hearing
