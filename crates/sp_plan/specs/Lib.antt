-- The changes of a plan as the ledger's, and the rows that they add.
pub mod Plan
