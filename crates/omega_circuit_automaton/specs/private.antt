-- Definitions that no contract of a public function cites.
pub mod Ternary
pub mod Lanes
pub mod Cuts
pub mod Labels
pub mod Written
pub mod Automata
pub mod Quotable
