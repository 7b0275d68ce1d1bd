pub mod Grown
pub mod Shown
pub mod Binding
pub mod Laws
