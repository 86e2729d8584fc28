-- How units are read byte by byte, and what a tokenizer keeps of them.
pub mod KeptMode
pub mod Leads
pub mod Modes
pub mod Passing
pub mod Reading
pub mod Unfinished
