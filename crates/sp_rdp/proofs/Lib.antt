pub mod Escapes
pub mod KindsRead
pub mod PostHeads
pub mod PostReads
pub mod Seen
pub mod ValuesRead
