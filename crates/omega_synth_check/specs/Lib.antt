-- Whether an automaton is a controller or a counter-strategy for a specification: what public contracts cite, and in
-- `private` what private contracts alone cite.
pub use Rattle.omega_text.specs.Cases
pub use Rattle.omega_text.specs.Refusal
pub use Rattle.omega_synth_controllers.specs.Controllers
pub mod Judging
pub mod Refusing
pub mod Lacks
pub mod Laws
pub mod CounterJudging
pub mod CounterRefusing
pub mod WaysOut
pub mod CounterLaws
pub mod private
