-- Lemmas of the referee: runs of marks, what accepts, what connected edges are, faults, and verdicts.
pub mod Marking
pub mod Connecting
pub mod Excluding
pub mod Deciding
pub mod Verdicts
