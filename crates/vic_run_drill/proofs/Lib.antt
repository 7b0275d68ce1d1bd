pub mod Rows
pub mod Showing
pub mod Going
pub mod Phases
pub mod Entering
pub mod Asking
pub mod Seats
pub mod Summing
