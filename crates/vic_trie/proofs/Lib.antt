pub mod Crossing
pub mod Nodes
pub mod Kept
pub mod Undone
