-- What contracts of game texts and solution texts cite.
pub mod Symbols
pub mod game
pub mod solution
pub mod private
