-- What only private contracts cite.
pub mod Ends
pub mod Links
pub mod Searching
pub mod Numbering
pub mod Classes
pub mod Judging
