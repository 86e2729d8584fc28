-- What only private contracts cite.
pub mod Entering
pub mod Looks
pub mod Marking
