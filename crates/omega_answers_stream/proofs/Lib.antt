-- Lemmas by theme.
-- Lemmas by theme.
pub mod Reported
pub mod Flat
pub mod Follows
pub mod InTurn
pub mod Pieces
pub mod PieceByPiece
pub mod Texts
