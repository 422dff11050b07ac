pub mod Matching
pub mod Subscription
pub mod Subscriptions
