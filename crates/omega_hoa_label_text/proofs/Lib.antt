-- Lemmas on labels that are read: what is built of them, with what one begins, and that at most one is read.
-- Lemmas on aliases: their names, what they stand for, and labels with their aliases replaced.
pub mod BeginLemmas
pub mod ReadingLemmas
pub mod ReadingUniqueness
pub mod AliasLemmas
pub mod BareLemmas
pub mod EmitLemmas
pub mod EntryLemmas
pub mod ExpansionLemmas
pub mod ExtentLemmas
pub mod KeptLemmas
pub mod PutLemmas
pub mod ReplacedAtLemmas
