-- What has to be believed: which ledgers a core stands for, and what preparing and applying a unit mean.
pub mod State
pub mod Stands
pub mod Room
pub mod Decided
pub mod Asked
-- How contracts see the fields.
pub mod Inside
