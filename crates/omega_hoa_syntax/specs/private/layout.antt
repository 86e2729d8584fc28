-- How edges lie in memory. Only contracts inside this crate and those that take edges apart look into it.
pub mod Edges
