-- Lemmas by theme.
pub mod Answered
pub mod CircuitRefusals
pub mod Cut
pub mod NameLines
pub mod ProgressLines
pub mod Reported
pub mod ReportedLines
pub mod Telling
pub mod Unfailed
pub mod ReadWhole
