pub mod Commuting
pub mod Cells
pub mod Heeding
