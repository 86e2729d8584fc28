-- The laws of products and complements, and words over names.
pub mod Complements
pub mod Graphs
pub mod NamedWords
pub mod Products
