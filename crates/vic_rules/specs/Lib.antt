pub mod Objects
pub mod Client
pub mod History
pub mod Views
pub mod Trust
pub mod Headline
