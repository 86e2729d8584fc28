-- Lemmas, by what they are about.
pub mod Branching
pub mod Cubes
pub mod CubeWords
pub mod CubesRead
pub mod LaneLiterals
pub mod Leading
pub mod LiteralBits
pub mod Parities
pub mod Parts
pub mod Remaining
pub mod TruthTables
pub mod Valuations
pub mod WideTables
pub mod WordLemmas
