-- What only private contracts cite.
pub mod game
pub mod reader
pub mod solution
