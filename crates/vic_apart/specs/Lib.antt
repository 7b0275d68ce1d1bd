pub mod ByHash
pub mod Places
pub mod Stands
pub mod Sealed
pub mod Contents
