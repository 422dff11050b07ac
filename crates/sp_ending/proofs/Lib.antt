-- The bytes of copies that may end.
pub mod Fits
-- One end more, and the list of them.
pub mod Reaching
pub mod Steps
pub mod OnWay
pub mod Settled
