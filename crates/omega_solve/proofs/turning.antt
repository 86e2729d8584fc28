-- Solving in turns: lifts stay below the least table in which no lift is due, and lead to it.
pub mod Values
pub mod Below
pub mod Ending
pub mod Raising
pub mod Starting
pub mod Sides
pub mod Cutting
