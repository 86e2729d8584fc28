-- What `empty`, `game` and `draw` answer and refuse of one automaton.
pub mod Draw
pub mod Game
pub mod Observing
pub mod empty
