pub mod Inside
pub mod Notes
