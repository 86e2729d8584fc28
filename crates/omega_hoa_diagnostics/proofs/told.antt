-- Lemmas of faults that lines are about: something is found to be told.
pub mod Aliases
pub mod Found
pub mod Lines
pub mod Numbers
pub mod Repeats
