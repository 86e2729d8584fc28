-- Drawings of automata in the DOT language: what contracts cite.
pub mod Roles
pub mod Names
pub mod Expressions
pub mod States
pub mod EdgeLines
pub mod Arrows
pub mod AutomatonDrawing
pub mod private
