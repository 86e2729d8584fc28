-- How priorities are counted: cited by private contracts alone.
pub mod Tally
