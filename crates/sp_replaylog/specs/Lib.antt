pub mod Inside
pub mod Log
pub mod Order
pub mod Plan
pub mod Replays
