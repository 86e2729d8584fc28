-- Deterministic automata as flat arrays: what contracts cite.
pub mod Limits
pub mod Letters
pub mod Deterministic
pub mod Reading
pub mod Refusing
