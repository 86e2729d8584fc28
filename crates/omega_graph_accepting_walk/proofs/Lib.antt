-- Lemmas of the search.
pub mod Listing
pub mod Placing
pub mod Counting
pub mod NodesPushed
pub mod Weighing
pub mod Steps
pub mod Parts
pub mod Tours
pub mod Runs
pub mod Ways
