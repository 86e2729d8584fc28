-- How tokens of games are found.
pub mod FirstForm
