-- What only private contracts cite.
pub mod EdgeWords
pub mod Exclusive
pub mod Firsts
pub mod Lanes
pub mod Making
pub mod Restricted
