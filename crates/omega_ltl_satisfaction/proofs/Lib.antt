-- Lemmas of satisfaction: conjuncts and copies of nodes, automata that are met, refusals, answers, automata of words.
pub mod Splitting
pub mod Wanting
pub mod Copying
pub mod Holding
pub mod Firsts
pub mod Unbranched
pub mod MetLemmas
pub mod Refused
pub mod Answering
pub mod WordAnswers
