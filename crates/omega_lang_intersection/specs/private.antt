-- What private contracts alone cite.
pub mod Letters
pub mod Meeting
pub mod Named
