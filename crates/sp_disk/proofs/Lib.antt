mod Acts
pub mod EverywhereLemmas
mod Grown
mod HalfDone
pub mod LookedLemmas
pub mod MomentLemmas
mod Planned
pub mod Tears
