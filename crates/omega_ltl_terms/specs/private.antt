-- Definitions that no contract of a public function cites.
pub mod Marking
pub mod Meeting
pub mod Splitting
pub mod Strongs
