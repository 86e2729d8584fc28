-- How the labels of edges lie in memory: cited by private contracts alone.
pub mod EdgeLabel
