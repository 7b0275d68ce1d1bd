pub mod Forged
pub mod Lines
