-- The laws of the texts of products and complements, of trimmed products, and of containment by texts.
-- The laws of automata without useless states.
-- The laws of unions.
-- The law of the words that `empty --word` writes.
-- The laws of what `satisfies` and `equal -f` answer.
-- The laws of the texts of controllers, of what is answered to them, and of answers by lifting.
pub mod ComplementTexts
pub mod Containment
pub mod Describes
pub mod InclusionTexts
pub mod ProductTexts
pub mod TellsWords
pub mod TextWords
pub mod Trimming
pub mod Trims
pub mod Unions
pub mod WrittenTexts
pub mod WrittenWords
pub mod ControllerTexts
pub mod FormulaStrategies
pub mod FormulaTexts
pub mod JudgedCircuits
pub mod JudgedTexts
pub mod LiftedAnswers
pub mod RealizedFormulas
pub mod SpecificationTexts
pub mod WrittenControllers
pub mod WrittenCircuits
