pub mod Command
pub mod Sources
pub mod GroupEnds
pub mod ClientEnding
pub mod Serving
pub mod Drilling
