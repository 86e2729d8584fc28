-- What answers say of what texts describe: automata, formulas and circuits, and of strategies over names.
pub mod Alike
pub mod Described
pub mod JudgedCircuits
pub mod JudgedTexts
pub mod Plays
pub mod Realizing
pub mod Said
pub mod Satisfying
pub mod SpecificationTexts
