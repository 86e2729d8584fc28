-- What `complement`, `trim`, `meet`, `join` and `verify --automaton` answer and refuse.
pub mod Complement
pub mod Trim
pub mod Meet
pub mod TrimmedMeet
pub mod Join
pub mod Verify
pub use Rattle.omega_text.specs.Cases
pub use Rattle.omega_text.specs.Refusal
