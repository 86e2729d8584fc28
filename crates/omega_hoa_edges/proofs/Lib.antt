-- Lemmas on the conjuncts of labels.
pub mod Bits
pub mod Depths
pub mod FullStates
pub mod NewNumbers
pub mod Refusals
pub mod Valuations
mod Adding
mod Found
pub mod Meaning
pub mod Sizes
mod Stacks
pub mod ExclusiveStates
pub mod Faults
pub mod Full
pub mod Judged
pub mod Rows
pub mod StateNumbers
pub mod Summarized
