-- Lemmas by theme.
pub mod Answering
pub mod Built
pub mod Firsts
pub mod Shapes
pub mod Turning
