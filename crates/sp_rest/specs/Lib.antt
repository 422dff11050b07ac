pub mod Publish
pub mod Statuses
pub mod Wire
