pub mod Lists
pub mod Dictionary
pub mod Rows
