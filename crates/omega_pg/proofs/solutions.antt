-- Lemmas of the texts of solutions.
pub mod Apart
pub mod Choices
pub mod Decided
pub mod Grammar
pub mod Judging
pub mod Outcomes
pub mod RoundTrip
pub mod Steps
pub mod Texts
pub mod WinnerLines
pub mod WinnerTexts
pub mod WinnersApart
