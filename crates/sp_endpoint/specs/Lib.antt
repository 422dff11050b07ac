pub mod Endpoint
pub mod Endpoints
pub mod Index
pub mod Inside
pub mod Takers
