-- That the canonical texts of products and complements, and of other automata as they are written, are read back.
pub mod Complements
pub mod Fitting
pub mod Products
pub mod Quotable
pub mod Written
