-- What only private contracts of drawings cite.
pub mod Drawing
pub mod Marking
pub mod Naming
pub mod Sharing
