-- The bytes of requests and responses. Nothing here cites what is asked or answered.
pub mod Codes
pub mod Completions
pub mod Cutting
pub mod Fronts
pub mod Heads
pub mod Parts
pub mod Request
pub mod Response
pub mod Targets
