-- What only private contracts cite.
pub mod reader
pub mod hoa
pub mod ByteString
pub mod Left
pub mod Marks
pub mod Numbers
pub mod pg
