-- Lemmas by theme.
mod lifting
mod answers
mod runs
mod turning
pub mod within_budget
