-- What runs within budgets come to.
pub mod Dealing
pub mod Solved
