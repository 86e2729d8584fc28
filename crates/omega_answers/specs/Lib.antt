-- What the answers to questions share: what holds of one text or of two, and which of them a refusal is about.
pub mod Choice
pub mod OneAutomaton
pub mod TwoAutomata
pub mod TwoTexts
pub use Rattle.omega_hoa.specs.Alone
pub use Rattle.omega_io.specs.Answer
pub use Rattle.omega_io.specs.Refused
pub use Rattle.omega_text.specs.Cases
pub use Rattle.omega_text.specs.Refusal
