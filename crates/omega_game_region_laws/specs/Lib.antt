-- Regions of parity games, and infinite plays.
pub mod Laws
pub mod Plays
pub mod Histories
