-- What only private contracts cite.
pub mod Keys
pub mod Measures
