-- Words over names: what automata see of them, and what products and complements accept of them.
pub mod Named
pub mod Parted
pub mod Parting
pub mod Periodic
pub mod Same
