-- The answers of `solve`: right answers and solutions, and refusals.
pub mod AnswerText
pub mod Refusing
pub mod SearchLines
pub mod Searching
pub mod Solution
pub mod Solving
pub mod Winners
