-- What only private contracts cite.
pub mod AliasReading
pub mod Refused
pub mod Found
