-- Definitions that only private contracts cite: which edges are judged, how the states of a graph are numbered, and
-- what a search is.
pub mod Judged
pub mod Numbering
pub mod Searched
