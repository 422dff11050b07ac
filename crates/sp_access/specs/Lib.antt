pub mod Activity
pub mod Flow
pub mod Flows
pub mod Inside
pub mod InsideFlows
