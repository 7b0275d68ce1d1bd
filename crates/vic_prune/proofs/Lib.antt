pub mod Nodes
pub mod OnCuts
pub mod Gathered
pub mod Listing
