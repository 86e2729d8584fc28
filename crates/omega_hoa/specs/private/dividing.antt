-- What only private contracts cite: how the tokens of a stream are divided, one by one.
pub mod Ending
pub mod Fed
pub mod Next
