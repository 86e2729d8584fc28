-- What the emptiness game means: its nodes are known by their identifiers, its walks are edges of the automaton,
-- and what is won accepts.
pub mod Membership
pub mod Identified
pub mod Tables
pub mod Steps
pub mod Reading
pub mod Accepting
pub mod WonSteps
pub mod Searching
