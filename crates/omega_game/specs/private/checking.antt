-- How strategies are checked: cited by private contracts alone.
pub mod Following
pub mod Recurring
pub mod Ordering
pub mod Decision
