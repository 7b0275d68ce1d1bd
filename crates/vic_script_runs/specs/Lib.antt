pub mod Events
pub mod Claims
pub mod Rows
