-- What a solver keeps: lifts that are due, the lifts made, what waking adds, and how many takes there are.
pub mod Order
pub mod FirstBest
pub mod Edges
pub mod Due
pub mod Waking
pub mod Lifting
pub mod Repeating
pub mod Starting
pub mod Finishing
pub mod Totals
pub mod Attempts
