-- What only private contracts cite.
pub mod Implied
pub mod Numbers
pub mod Realize
pub mod Tasks
pub mod Verify
