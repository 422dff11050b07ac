pub mod Numbers
pub mod Order
pub mod Plans
pub mod Running
pub mod Suffixes
