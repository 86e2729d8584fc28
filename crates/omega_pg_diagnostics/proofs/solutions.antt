-- Lemmas of what is at fault in a solution text.
pub mod Causes
pub mod Choices
pub mod Faults
pub mod Faultless
pub mod Reasons
pub mod Refused
pub mod Spelled
pub mod Texts
