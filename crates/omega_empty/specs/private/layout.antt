-- What private contracts cite: the usable edges and the ranges of edges, how nodes are added, how choices are followed,
-- and the game in which a run lifts.
pub mod Marks
pub mod Ranges
pub mod Ready
pub mod Judging
pub mod Solving
pub mod Nodes
pub mod Following
