-- Drawings of games in the DOT language: what contracts cite; in `private` what private ones alone do.
pub mod Extent
pub mod GameDrawing
pub mod Legend
pub mod Nodes
pub mod Roles
pub mod private
