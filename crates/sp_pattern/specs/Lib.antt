pub mod Pattern
pub mod Wild
