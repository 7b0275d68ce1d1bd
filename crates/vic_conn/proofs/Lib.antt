pub mod Fronts
pub mod Taking
pub mod Left
pub mod Growing
pub mod Spelled
pub mod Pieces
pub mod Streams
