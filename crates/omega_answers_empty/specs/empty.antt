-- The answers of `empty`: `empty`, or the text of an accepting lasso, and refusals.
pub mod Answer
