-- What only private contracts cite.
pub mod checking
pub mod refuting
