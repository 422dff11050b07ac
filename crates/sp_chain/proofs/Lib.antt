pub mod Chain
pub mod Lists
pub mod Moves
pub mod Opened
pub mod Placed
pub mod Steps
pub mod Tournaments
