-- Lemmas by what they are about: what products accept, what complements accept, and both by words over names.
pub mod meeting
pub mod naming
pub mod parting
