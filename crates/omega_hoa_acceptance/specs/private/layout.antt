-- How acceptance formulas lie in memory, and how they are built.
pub mod Acceptance
pub mod Building
pub mod Chain
pub mod Fields
pub mod Joining
pub mod Judged
pub mod Plain
pub mod Raw
pub mod RawFields
pub mod Rewriting
pub mod States
pub mod Texts
pub mod Written
