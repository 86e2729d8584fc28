-- Which text a refusal is about.
pub mod StreamAbout
