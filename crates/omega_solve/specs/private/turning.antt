-- What solving in turns alone cites: a player's side, and places won that are handed on.
pub mod Side
pub mod Handing
