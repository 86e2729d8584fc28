-- Solutions.
pub mod Given
