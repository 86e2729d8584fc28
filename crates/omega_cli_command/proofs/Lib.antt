-- Lemmas of the command line.
pub mod Formats
pub mod Given
pub mod Kept
pub mod Lifts
pub mod Numbers
pub mod Speaking
