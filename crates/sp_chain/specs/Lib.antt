pub mod Deadlines
pub mod Items
pub mod Kept
pub mod Links
pub mod Numbers
pub mod Tournament
