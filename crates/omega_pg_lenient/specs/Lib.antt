-- What contracts of lenient game texts cite.
pub mod DeadEnds
pub mod Format
pub mod Grammar
pub mod Laws
pub mod OpenPlays
pub mod Parts
pub mod Plain
pub mod Playing
pub mod Refusing
pub mod SolutionLines
pub mod SolutionParts
pub mod SolutionText
pub mod StrictText
pub mod Symbols
pub mod Text
pub mod private
