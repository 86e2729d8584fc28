-- Elements of lists, contained and counted.
pub mod Membership
pub mod Counting
