-- What a request publishes.
pub mod Destination
pub mod Headers
pub mod Publishes
pub mod Suffix
pub mod UserProperties
