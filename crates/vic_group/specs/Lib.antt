pub mod Members
pub mod World
pub mod Playing
