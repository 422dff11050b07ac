pub mod Cuts
pub mod Examples
pub mod Matches
pub mod SubscriptionFaults
pub mod Texts
