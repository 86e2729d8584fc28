-- Infinite runs: segments of a run, cycles of it, and a lasso taken for ever.
pub mod Segments
pub mod Forever
pub mod Steps
pub mod Words
