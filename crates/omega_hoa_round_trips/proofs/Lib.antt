-- Lemmas of canonical texts that are read back.
pub mod meanings
pub mod streams
pub mod texts
pub mod values
