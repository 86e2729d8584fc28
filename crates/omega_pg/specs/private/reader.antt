-- What only readers keep and promise, whatever they read.
pub mod Run
pub mod Symbols
