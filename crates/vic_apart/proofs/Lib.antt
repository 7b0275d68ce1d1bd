pub mod Chained
pub mod ContentsTold
pub mod Gathered
pub mod Leaving
pub mod NodeTexts
pub mod Seen
pub mod Standing
