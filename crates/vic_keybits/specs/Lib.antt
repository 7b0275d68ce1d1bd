pub mod Apart
pub mod LowBits
pub mod Order
