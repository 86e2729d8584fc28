-- What schedules keep: flags, a sweep, a queue, and bits of positions.
-- The lemmas of orders and of sets of positions.
pub mod Flags
pub mod Sweeping
pub mod Queueing
pub mod Nesting
mod Bits
mod Kept
mod Rising
