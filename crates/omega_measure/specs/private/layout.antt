-- How tables keep measures: what private contracts alone cite.
pub mod Falling
pub mod Shape
pub mod Plain
pub mod Due
pub mod Field
pub mod Packed
