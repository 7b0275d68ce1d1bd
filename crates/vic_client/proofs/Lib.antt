pub mod Requests
pub mod Moved
pub mod Windows
pub mod Pendings
