-- Lemmas by theme: which text a refusal is about, and why one text or two are refused.
pub mod About
pub mod Chosen
pub mod OneText
pub mod Refusals
pub mod TwoTexts
