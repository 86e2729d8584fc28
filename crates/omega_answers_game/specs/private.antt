-- What private contracts alone cite.
pub mod steps
pub mod Table
pub mod Groups
pub mod Sizes
