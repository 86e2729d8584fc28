-- Lemmas on canonical texts.
pub mod FormulaDepths
pub mod Formulas
pub mod LabelDepths
pub mod Labels
pub mod TokenLemmas
