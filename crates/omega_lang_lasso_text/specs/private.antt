-- Definitions that only private contracts cite.
pub mod Reader
pub mod Reading
pub mod Words
