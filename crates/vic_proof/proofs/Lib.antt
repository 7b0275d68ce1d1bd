pub mod Levels
pub mod Wholes
pub mod Tops
