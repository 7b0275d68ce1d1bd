pub mod Contents
pub mod Spelled
pub mod Made
