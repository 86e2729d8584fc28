-- Demands on the nodes of a formula, their shapes, and what covers them: what contracts cite.
pub mod Combinations
pub mod Shapes
pub mod Demands
pub mod Covers
pub mod Terms
pub mod Graphs
pub mod Laws
