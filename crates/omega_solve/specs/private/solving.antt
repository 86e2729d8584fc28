-- What the solver's own functions alone cite: its invariant, the successor of a lift, lifting again, and waking.
pub mod Progress
pub mod Repeating
pub mod Successor
pub mod Wake
