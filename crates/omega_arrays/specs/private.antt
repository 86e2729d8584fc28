-- What only private contracts cite.
pub mod Specified
pub mod Written
