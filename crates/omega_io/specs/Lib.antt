-- What contracts of reading, writing and telling cite.
pub use Rattle.omega_text.specs.Cases
pub use Rattle.omega_text.specs.Limits
pub use Rattle.omega_text.specs.Refusal
pub mod Answer
pub mod Exit
pub mod Failures
pub mod Lines
pub mod Reading
pub mod Reason
pub mod RefusalLine
pub mod Refused
pub mod Writing
