-- Products of automata: what public contracts cite, and in `private` what private contracts alone cite.
pub use Rattle.omega_text.specs.Cases
pub use Rattle.omega_text.specs.Refusal
pub mod Joining
pub mod PlainEdges
pub mod Pairs
pub mod Acceptance
pub mod Product
pub mod Limits
pub mod Written
pub mod JointEdges
pub mod PairGraph
pub mod Refusing
pub mod private
