-- That a product accepts the words that both automata accept.
pub mod Buchi
pub mod Conjoined
pub mod Found
pub mod Graphs
pub mod Labels
pub mod Lists
pub mod Marks
pub mod Meeting
pub mod One
pub mod PlainEdges
