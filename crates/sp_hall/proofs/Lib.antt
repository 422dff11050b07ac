pub mod Draws
pub mod Ends
pub mod Gathering
pub mod Later
pub mod Moves
pub mod Parts
pub mod Views
