-- What the exports' contracts cite.
pub mod Outcome
pub mod Held
pub mod Holding
pub mod TextOutcome
pub mod Giving
pub mod Solving
pub mod Verifying
pub mod Bounding
pub mod Running
pub mod Synthesis
pub mod Circuits
