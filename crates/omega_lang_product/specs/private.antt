-- What private contracts alone cite.
pub mod Adding
pub mod Explored
pub mod Faults
pub mod Headers
pub mod Labelling
pub mod Meeting
pub mod Operands
pub mod Room
pub mod Starts
pub mod Tables
