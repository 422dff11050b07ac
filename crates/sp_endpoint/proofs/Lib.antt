pub mod Indexes
pub mod Lookup
pub mod Order
pub mod Places
pub mod Renewals
