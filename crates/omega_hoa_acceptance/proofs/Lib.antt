-- Lemmas on acceptance formulas: building, meaning, kinds, comparing, and their texts.
pub mod AccLemmas
pub mod AtomLemmas
pub mod BeginLemmas
pub mod BelowLemmas
pub mod ChainLemmas
pub mod Equality
pub mod JudgedLemmas
pub mod PlainLemmas
pub mod RawLemmas
pub mod ReadingLemmas
pub mod ReadingUniqueness
pub mod RewritingLemmas
pub mod TextLemmas
pub mod Unread
pub mod WrittenLemmas
pub mod kinds
