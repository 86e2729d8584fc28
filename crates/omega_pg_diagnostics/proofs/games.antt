-- Lemmas of what is at fault in a game text.
pub mod FaultLines
pub mod Faults
pub mod Refused
pub mod Repeats
pub mod Spelled
pub mod Texts
