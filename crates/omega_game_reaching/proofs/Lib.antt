-- The lemmas of the search along edges left possible, and of parts.
pub mod Marking
pub mod Kept
pub mod PartGames
pub mod Specifying
