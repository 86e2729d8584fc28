-- What private contracts alone cite.
pub mod Decided
pub mod Game
pub mod Question
pub mod Alike
pub mod Listed
pub mod Literals
pub mod Parted
pub mod Own
pub mod Reported
