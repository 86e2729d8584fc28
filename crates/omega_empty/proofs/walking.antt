-- Following the choices of player 0: the places of starts, the loop that begins once a place comes again, the verdicts
-- and the refusals.
pub mod Choices
pub mod Refused
pub mod Starts
pub mod Verdicts
pub mod Observing
