pub mod Chains
pub mod Going
