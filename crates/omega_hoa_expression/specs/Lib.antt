-- What labels and acceptance formulas share: symbols, depths, limits, how tokens are passed, where nothing is read of
-- them, and texts; in `private` what only private contracts cite.
pub mod Depth
pub mod Depths
pub mod Joins
pub mod Limits
pub mod Passing
pub mod Symbols
pub mod Texts
pub mod Unread
pub mod Writing
pub mod private
