-- Lemmas of the judges for formulas.
pub mod Unbranched
pub mod Merging
pub mod Accepting
pub mod Coming
pub mod StateLetters
pub mod LetterlessStates
pub mod Judgements
pub mod CounterJudgements
pub mod Strategies
pub mod Excluding
pub mod Beating
