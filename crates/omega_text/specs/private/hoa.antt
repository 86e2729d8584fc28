-- How tokens of the Hanoi format are found.
pub mod scanning
pub mod Gaps
