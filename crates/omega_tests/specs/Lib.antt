-- How far a text was read.
pub mod Read
