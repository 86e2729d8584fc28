-- The nodes of an emptiness game as they are made: the ranges of edges, what is added when, and that nothing is at
-- fault.
pub mod Linking
pub mod Ranges
pub mod Rows
pub mod MarkLists
pub mod Plain
pub mod Rising
pub mod Named
pub mod Sums
pub mod Faultless
