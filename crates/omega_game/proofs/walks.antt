-- Walks along edges left possible, and places that recur.
pub mod Closing
pub mod Recurrence
pub mod Standing
pub mod Meeting
pub mod Ways
pub mod Lassos
pub mod Deciding
pub mod Keeping
