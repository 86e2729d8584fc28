-- Plays of the emptiness game and edges of the automaton: the node at a place, and the walk of an accepting lasso.
pub mod Table
pub mod Places
pub mod Lapping
pub mod Winning
