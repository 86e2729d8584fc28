-- The canonical text of automata: what contracts cite.
pub mod Parts
pub mod HeaderText
pub mod BodyText
pub mod Canonical
pub mod Stream
