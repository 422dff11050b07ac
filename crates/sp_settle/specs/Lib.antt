-- How a copy ends.
pub mod Questions
