pub mod Commutes
pub mod Blocks
