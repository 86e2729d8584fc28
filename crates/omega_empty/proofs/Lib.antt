-- Lemmas of emptiness: counters, the nodes of the game as they are made, who wins it and what that means,
-- and how its choices are followed.
pub mod Counters
pub mod making
pub mod playing
pub mod meaning
pub mod walking
