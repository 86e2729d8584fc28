-- Lemmas of equality with a formula: complements without universal branching, answers, refusals.
pub mod PlainComplement
pub mod Answering
pub mod Refused
