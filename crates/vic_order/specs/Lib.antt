pub mod Order
pub mod Fates
pub mod Honest
pub mod Next
pub mod Serving
pub mod Scenes
