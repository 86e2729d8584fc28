-- What only private contracts cite.
pub mod Drawn
pub mod Judged
