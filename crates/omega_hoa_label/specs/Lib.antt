-- Labels: trees, their nodes, and how they are written; in `private` what only private contracts cite.
pub mod Bare
pub mod Label
pub mod Postfix
pub mod Raw
pub mod Renumbering
pub mod Shape
pub mod Writing
pub mod private
