-- The lemmas of the bound on lifts.
pub mod Products
pub mod Factors
