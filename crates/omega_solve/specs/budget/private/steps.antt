-- What this crate's own functions alone cite: how the reordered game is built, and what a solver of it has done.
pub mod Building
pub mod Lifting
pub mod Reordering
pub mod Refusing
