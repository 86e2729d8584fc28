-- What the readers of solutions and of winners keep.
pub mod reader
pub mod winners
