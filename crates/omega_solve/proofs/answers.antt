-- What answers state: places won and choices, that they are exact, and that two part the game.
pub mod Answering
pub mod Exactness
pub mod Parting
