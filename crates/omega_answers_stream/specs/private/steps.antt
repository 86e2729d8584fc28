-- The state between the pieces of a stream: cited by private contracts alone.
pub mod Following
pub mod Question
