pub mod Ledgers
pub mod Receipts
pub mod Left
pub mod Moments
pub mod Opens
pub mod Pieces
pub mod TakenIn
pub mod Walks
