-- What only private contracts cite.
pub mod Ahead
pub mod dividing
pub mod outlines
pub mod Places
