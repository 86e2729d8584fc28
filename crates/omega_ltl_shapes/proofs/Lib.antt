-- Lemmas on combinations, covering, and the runs that meet demands.
pub mod BitLemmas
pub mod CubeLemmas
pub mod ItemLemmas
pub mod Combining
pub mod Numbering
pub mod Showing
pub mod Grounded
pub mod Covering
pub mod Sound
pub mod Truths
pub mod Accepting
