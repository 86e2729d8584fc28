-- The edges of a state by the terms of its demands: what contracts cite.
pub mod Limits
pub mod Adding
pub mod Ways
pub mod Products
pub mod Tables
pub mod Meeting
pub mod Needed
pub mod Pieces
pub mod Closing
pub mod private
