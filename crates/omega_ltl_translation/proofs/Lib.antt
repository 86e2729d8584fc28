-- Lemmas by what they are about: graphs that grow, states that are reached and found, demands that are needed, joined
-- edges, labels, what is written and what it means, and runs.
pub mod Growing
pub mod Finding
pub mod Reaching
pub mod Needing
pub mod JoiningLemmas
pub mod LabelLemmas
pub mod WrittenLemmas
pub mod Meaning
pub mod Sizes
pub mod Recurring
pub mod Tracing
pub mod Choosing
pub mod Translations
