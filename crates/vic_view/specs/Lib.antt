pub mod Transcripts
pub mod Replay
pub mod Together
pub mod Printed
pub mod Making
pub mod Plain
