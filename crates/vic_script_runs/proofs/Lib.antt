pub mod Attacks
pub mod Leading
pub mod Honest
mod Adding
mod Rows
