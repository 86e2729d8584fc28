-- Lemmas of the intersection: words along a lasso, strings, labels, names, the product that is not made, and answers.
pub mod Along
pub mod Strings
pub mod Conjuncts
pub mod Formulas
pub mod Naming
pub mod Standing
pub mod Made
pub mod AcceptedWords
pub mod Paths
pub mod Texts
pub mod Lettering
pub mod Answering
