-- How labels lie in memory, and how they are built.
pub mod Codes
pub mod Compact
pub mod Depths
pub mod Joining
pub mod Label
pub mod Moving
pub mod Parts
pub mod Propositions
pub mod Raw
pub mod ReadNodes
pub mod Texts
