-- Lemmas by theme.
pub mod elements
pub mod priorities
pub mod layout
pub mod walks
pub mod building
pub mod solutions
