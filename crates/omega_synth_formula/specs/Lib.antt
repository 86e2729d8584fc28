-- Whether an automaton is a controller or a counter-strategy for a formula: what public contracts cite, and in
-- `private` what private contracts alone cite.
pub use Rattle.omega_text.specs.Cases
pub use Rattle.omega_text.specs.Refusal
pub mod Judging
pub mod Refusing
pub mod Laws
pub mod Following
pub mod CounterJudging
pub mod CounterRefusing
pub mod CounterLaws
pub mod private
