-- The lemmas of lifting.
pub mod Order
pub mod Entries
pub mod LeastMeasure
pub mod Ranks
pub mod Counting
pub mod Lifting
pub mod BestPlaces
pub mod Choosing
pub mod Falling
pub mod Reaching
pub mod Witness
pub mod Won
