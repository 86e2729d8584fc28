-- What only private contracts and proofs cite: words of 64 valuations, steps of the search and how many of them are
-- visited, how labels become steps part by part, and the pending branches.
pub mod Among
pub mod Branching
pub mod Leading
pub mod Encoding
pub mod LiteralLanes
pub mod Pending
pub mod ReadCubes
pub mod ReadLiterals
pub mod Remaining
pub mod Visits
pub mod WideWords
pub mod Words
