-- Definitions that only private contracts cite.
pub mod Lists
pub mod Formulas
pub mod Walks
pub mod Weights
pub mod Search
pub mod Rounds
pub mod Tours
