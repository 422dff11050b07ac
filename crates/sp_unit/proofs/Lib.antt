pub mod Attributes
pub mod Events
pub mod FewSettings
pub mod Lengths
pub mod Units
