pub mod Walks
pub mod Digests
pub mod Paths
pub mod Verdicts
pub mod Decisions
pub mod Finding
