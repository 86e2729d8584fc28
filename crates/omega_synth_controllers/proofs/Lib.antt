-- Lemmas of runs of kept edges, and of the words and states that strategies lead to.
-- Lemmas by theme.
pub mod Stretches
pub mod Excluding
pub mod Duals
pub mod Accepting
pub mod Letters
pub mod Realizing
pub mod Numbers
pub mod Moving
pub mod Refuting
pub mod Beating
pub mod Starts
mod Only
mod ControlledNumbers
mod Stated
