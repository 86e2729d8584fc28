-- What only private contracts cite.
pub mod AnyText
pub mod Grammar
pub mod WrittenGame
pub mod WrittenSolution
