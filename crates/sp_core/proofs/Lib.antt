pub mod Standing
pub mod Deciding
pub mod Carried
pub mod Prepared
pub mod Spread
pub mod Ending
pub mod Plans
