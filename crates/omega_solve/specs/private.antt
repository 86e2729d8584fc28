-- What private contracts alone cite.
pub mod solving
pub mod turning
