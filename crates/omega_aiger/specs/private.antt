-- What only private contracts cite.
pub mod Outcome
pub mod Headers
