-- Definitions that the public contracts of the search for accepting closed walks cite.
pub mod Rows
pub mod private
