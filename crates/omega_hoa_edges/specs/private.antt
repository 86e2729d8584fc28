-- What only private contracts cite.
pub mod layout
pub mod Stacked
pub mod Apart
pub mod Refused
