-- Lemmas of realizability.
-- Lemmas of solving games in rounds.
pub mod Gamed
pub mod Realized
pub mod Sized
pub mod Refused
pub mod Filled
pub mod Unnamed
pub mod Chosen
pub mod MetEdges
pub mod Winners
pub mod Strategies
