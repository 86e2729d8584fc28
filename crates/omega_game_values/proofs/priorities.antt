-- Priorities in use, and counted.
pub mod Greatest
pub mod Tallies
pub mod InUse
