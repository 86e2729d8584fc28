-- Lemmas by what they are about: texts that are read back, and what the texts of products and complements say together.
-- That `accepts` accepts the word that `empty --word` writes.
-- Lemmas by what they are about: how many edges a text has, labels of valuations, what is given of an automaton that
-- was read, sizes of texts, automata as a controller's text has them, the states that it keeps, that it is read back,
-- what is answered to it, what does not branch, what is refused, and runs that have ended.
pub mod containing
pub mod reading_back
pub mod saying
pub mod Members
pub mod Moved
pub mod Runs
pub mod Words
pub mod One
pub mod Edges
pub mod States
pub mod UnionMoved
pub mod Formulas
pub mod Marks
pub mod UnionWords
pub mod Either
pub mod EitherNamed
pub mod UnionOne
pub mod Accepted
pub mod Choices
pub mod Written
pub mod Counted
pub mod Valuations
pub mod Given
pub mod Sizes
pub mod Made
pub mod Kept
pub mod ReadBack
pub mod RealizedWritten
pub mod Judged
pub mod Plain
pub mod Refused
pub mod Ending
mod CircuitsRefused
