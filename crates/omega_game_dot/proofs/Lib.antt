-- Lemmas of drawings of games: searching, walks, the looks of nodes and texts.
pub mod Entering
pub mod Looks
pub mod Places
pub mod Searching
pub mod Steps
pub mod Texts
pub mod Walks
