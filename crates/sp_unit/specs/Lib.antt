pub mod Inside
pub mod UnitBytes
pub mod UnitReading
