pub mod Birth
pub mod Body
pub mod Closing
pub mod Damage
pub mod Format
pub mod State
pub mod Survey
pub mod Unsure
