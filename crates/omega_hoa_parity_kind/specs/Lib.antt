-- Parity kinds of acceptance: numbers of a parity, and the priority of marks.
pub mod Priority
