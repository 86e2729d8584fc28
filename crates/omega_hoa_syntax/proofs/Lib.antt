-- Lemmas on symbols and the tokens that they spell, on the parts of a text, on its rows and on steps;
-- that tokens are written in one way.
pub mod BegunLemmas
pub mod ContentLemmas
pub mod FollowLemmas
pub mod PartLemmas
pub mod RowLemmas
pub mod SpellingLemmas
pub mod StepLemmas
pub mod ValueLemmas
pub mod uniqueness
