-- What only private contracts cite: how what is pending lies in memory.
pub mod Pending
