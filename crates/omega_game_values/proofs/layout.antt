-- Games and builders as columns and joined lists.
pub mod Columns
pub mod CountedPredecessors
pub mod StoredPredecessors
