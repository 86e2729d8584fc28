-- What only private contracts cite.
pub mod Fronts
pub mod Nodes
pub mod Reading
pub mod Reader
pub mod Measuring
pub mod Unwritten
