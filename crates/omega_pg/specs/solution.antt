-- The texts of solutions: their grammar, the solution or the winners of a text or its refusal, the written form, and
-- laws of all.
pub mod BadSolution
pub mod Canonical
pub mod Grammar
pub mod Laws
pub mod Refusing
pub mod Text
pub mod Winners
pub mod WinnerLaws
