-- What the three schedules alone cite.
pub mod Sweep
pub mod Worklist
pub mod Nested
pub mod layout
