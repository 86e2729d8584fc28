-- The lemmas of tables of measures.
pub mod Falling
pub mod Listed
pub mod Shapes
pub mod Measures
pub mod OneWord
pub mod Allowances
pub mod Contents
pub mod PlainCalls
pub mod Digits
pub mod Packing
pub mod PackedRows
pub mod PackedMeasures
pub mod PackedCalls
