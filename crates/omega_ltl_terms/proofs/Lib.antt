-- Lemmas on terms within others, on good ones, and on lists to which they are added.
pub mod Within
pub mod Adding
pub mod Refused
pub mod ProductLemmas
pub mod CoveringLemmas
pub mod ShapeLemmas
pub mod StrongLemmas
pub mod TermLemmas
pub mod ClosingLemmas
pub mod MeetingLemmas
pub mod PossibleLemmas
pub mod SplittingLemmas
pub mod EdgeLemmas
