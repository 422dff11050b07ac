-- What has to be believed: which ledger units lead to, what a store stands for, what a commit and an opening give.
pub mod Units
pub mod Refused
pub mod State
pub mod Commit
pub mod Opening
-- How contracts see the parts inside.
pub mod Parts
