-- What `contained`, `equal` and `accepts` answer and refuse.
pub mod Example
pub mod Contained
pub mod Equal
pub mod Accepts
pub mod AcceptsSome
pub use Rattle.omega_text.specs.Cases
pub use Rattle.omega_text.specs.Refusal
