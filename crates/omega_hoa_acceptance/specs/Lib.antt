-- Acceptance formulas: trees, how they are written and read, what they mean, and their kinds; in `private` what only
-- private contracts cite.
pub mod Acceptance
pub mod Dual
pub mod Judging
pub mod Kind
pub mod KindLaws
pub mod Meaning
pub mod Moving
pub mod Names
pub mod Postfix
pub mod Raw
pub mod Reading
pub mod Shape
pub mod Writing
pub mod private
