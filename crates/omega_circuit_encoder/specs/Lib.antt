-- Circuits of controllers: what contracts cite.
pub mod Canonical
pub mod Names
pub mod Refusing
