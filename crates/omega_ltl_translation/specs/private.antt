-- Definitions that no contract of a public function cites.
pub mod Graphs
pub mod Automata
pub mod Labels
pub mod Joining
pub mod Written
