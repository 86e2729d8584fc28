-- Lemmas of drawings of automata.
pub mod Bodies
pub mod Drawn
pub mod Lines
pub mod Literals
pub mod Marks
pub mod Named
pub mod Next
pub mod Shared
