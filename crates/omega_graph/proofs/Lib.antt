-- Lemmas of the crate's proofs.
-- Lemmas of walks and their marks, and of formulas on them.
mod Linking
mod Linked
mod Growing
mod Following
mod Searched
mod Walks
mod Apart
mod Classes
mod Numbered
mod Judged
mod Keeping
mod Spanning
pub mod ClosedWalking
pub mod Passing
pub mod Positive
pub mod Simplifying
pub mod Assuming
pub mod Touring
pub mod Accepting
pub mod Forbidding
