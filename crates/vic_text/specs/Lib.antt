pub mod ClientLines
pub mod Splits
pub mod Statuses
pub mod Numbers
pub mod BadKinds
