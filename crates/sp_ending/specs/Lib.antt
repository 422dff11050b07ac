-- What has to be believed: which ledgers the tables stand for, and which copies may end.
pub mod Tabled
pub mod Ends
pub mod Plans
-- What is decided so far.
pub mod Drafts
pub mod Inside
