-- What private contracts alone cite.
pub mod Met
pub mod Undecided
