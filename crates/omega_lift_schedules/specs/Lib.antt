-- What contracts of schedules cite, and in `private` what private contracts alone cite.
-- What contracts of orders cite, and in `private` what private contracts alone cite.
pub mod Schedule
pub mod private
pub mod Permutation
pub mod PositionSet
