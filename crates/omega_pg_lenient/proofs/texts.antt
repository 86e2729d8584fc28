-- Lemmas of plain texts and of the tokens of lenient texts.
pub mod Bare
pub mod BareLines
pub mod BareParts
pub mod OneWay
pub mod Plain
pub mod PlainParts
pub mod StrictBare
pub mod StrictPlain
