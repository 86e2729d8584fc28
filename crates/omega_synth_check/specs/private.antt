-- What private contracts alone cite.
pub mod Leaving
pub mod Meeting
pub mod Searching
pub mod Blocked
pub mod Letterless
