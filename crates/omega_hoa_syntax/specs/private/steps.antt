-- What each step of reading reads. Only contracts inside this crate look into it.
pub mod Beginnings
pub mod Contents
pub mod Joining
pub mod Parts
pub mod Reading
pub mod Rows
