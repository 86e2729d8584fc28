-- What private contracts alone cite.
pub mod Conjuncts
pub mod Wanted
pub mod Parts
pub mod Meeting
