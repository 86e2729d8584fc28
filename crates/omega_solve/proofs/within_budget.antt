-- The lemmas of solving within a budget.
pub mod Weights
pub mod Priorities
pub mod Games
pub mod Nodes
pub mod Lifting
pub mod Dealing
pub mod Exactness
pub mod Within
pub mod Turning
pub mod Observed
