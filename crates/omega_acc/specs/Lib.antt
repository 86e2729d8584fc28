-- What the laws of labels and acceptance formulas state: of kinds and priorities, and of written texts.
pub use Rattle.omega_hoa_acceptance.specs.KindLaws
pub mod WritingLaws
