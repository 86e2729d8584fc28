-- Lemmas on labels: their nodes, putting them together, comparing them, and their texts.
pub mod BareLemmas
pub mod BelowLemmas
pub mod CodeLemmas
pub mod DepthLemmas
pub mod Equality
pub mod LabelLemmas
pub mod MovingLemmas
pub mod PartLemmas
pub mod RawLemmas
pub mod ShapeLemmas
pub mod TextLemmas
