-- Lemmas of games in rounds: their nodes by place, and walks of edges as walks of the game.
pub mod Placing
pub mod Walks
pub mod Winning
pub mod Making
pub mod Named
pub mod Found
pub mod Successors
