-- How orders are kept.
pub mod Permutation
