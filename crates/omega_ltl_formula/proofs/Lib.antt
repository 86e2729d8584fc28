-- Lemmas by what they are about: decided facts, temporal operators over them, formulas, their laws, tables.
pub mod Decisions
pub mod Temporal
pub mod Deciding
pub mod Others
pub mod Duals
pub mod Unfolding
pub mod Tables
pub mod Equality
pub mod Keys
pub mod Growing
pub mod Putting
pub mod Measuring
pub mod Negating
