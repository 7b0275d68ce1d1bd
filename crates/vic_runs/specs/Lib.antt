pub mod Reached
pub mod Claims
pub mod Agreements
pub mod Tampering
pub mod Prints
pub mod Going
