pub mod SafeRuns
pub mod Claims
