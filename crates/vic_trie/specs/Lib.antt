pub mod Nodes
pub mod Tries
pub mod Weights
pub mod Undoing
