-- What Hanoi texts are cut into.
pub mod Cut
pub mod Fault
pub mod Format
pub mod Forms
pub mod Laws
pub mod Pieces
