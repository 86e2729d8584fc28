-- Games from specifications: sorting, resolving, faults, and that there is one game.
pub mod Keyed
pub mod Inserting
pub mod Specified
pub mod Faults
pub mod Built
pub mod Collecting
pub mod Duplicates
pub mod Refusals
pub mod Rearranged
pub mod Resolutions
pub mod Orders
pub mod Resolved
