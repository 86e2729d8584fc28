-- What private contracts of the judge alone cite.
pub mod Judging
