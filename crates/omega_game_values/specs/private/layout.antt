-- How games and builders lie in memory: cited by private contracts alone.
pub mod Lists
pub mod Columns
pub mod Collected
pub mod Predecessors
pub mod Resolving
pub mod Sorting
