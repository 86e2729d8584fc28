-- What contracts cite: the grammar of automata, what it is written in, and edges that are taken apart; in `private`
-- what its single steps read.
pub mod Edges
pub mod First
pub mod Grammar
pub mod Laws
pub mod Symbols
pub mod private
