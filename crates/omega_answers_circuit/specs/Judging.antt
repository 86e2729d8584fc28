-- Whether each word of a circuit is wanted, and if not, words that show it.
use Rattle.omega_circuit.specs.Circuit.{CircuitValue}
use Rattle.omega_circuit.specs.Rounds.{IsWordOf}
use Rattle.omega_hoa_automaton.specs.Automaton.{Description}
use Rattle.omega_lang_intersection.specs.Intersection.{IsExample}
use Rattle.omega_lang_intersection.specs.declared.answer.Example.{Example}
use Rattle.omega_lang_lasso_word.specs.Laws.{HasStrings}
use Rattle.omega_lang_word_laws.specs.NamedWords.{AcceptsNamed}
use Rattle.omega_ltl_formula.specs.Meaning.{Satisfies}
use Rattle.omega_ltl_formula.specs.Table.{NumberedFormula, tree_of}
use Rattle.omega_ltl_satisfaction.specs.Satisfaction.{IsOverStrings}
use Rattle.omega_text.specs.NamedWords.{NamedWord}
use Rattle.omega_text.specs.Omniscience.{LimitedPrincipleOfOmniscience}
use Rattle.omega_answers_circuit.specs.Sides.{IsAutomatonOf}
use Rattle.omega_answers_circuit.specs.declared.judgement.CircuitJudgement.{CircuitJudgement}
use Rattle.omega_answers_circuit.specs.declared.judgement.CircuitJudgement.TheVariants.{Realizes, Violates}

-- each word of a circuit is wanted
abbrev pub AllAreWanted : (IsWanted : NamedWord → Type 0) → CircuitValue → Type 0
AllAreWanted IsWanted c = (word : NamedWord) → IsWordOf c word → IsWanted word

-- a word is one of a circuit, and is not wanted
pub record IsUnwanted (IsWanted : NamedWord → Type 0) (c : CircuitValue) (word : NamedWord) : Type 0 where
  pub of_circuit : IsWordOf c word
  pub unwanted : ¬ IsWanted word

-- words along an accepting lasso of the automaton of a circuit, each of which is one of the circuit and is not wanted
pub record IsViolation (IsWanted : NamedWord → Type 0) (AreStrings : Type 0) (c : CircuitValue)
    (example : Example) : Type 0 where
  pub automaton : Description
  pub of_circuit : IsAutomatonOf c automaton
  pub shown : IsExample automaton AreStrings (IsUnwanted IsWanted c) example

-- a judgement is right: `Realizes` only if, by the limited principle of omniscience, each word of the circuit is
-- wanted; any other judgement is a counterexample, without a premise
abbrev pub IsCircuitJudgement : (IsWanted : NamedWord → Type 0) → (AreStrings : Type 0) → CircuitValue
    → CircuitJudgement → Type 0
IsCircuitJudgement IsWanted AreStrings c Realizes =
    LimitedPrincipleOfOmniscience → AllAreWanted IsWanted c
IsCircuitJudgement IsWanted AreStrings c (Violates example) = IsViolation IsWanted AreStrings c example

-- what is wanted is that a specification accepts the word
abbrev pub IsSpecificationJudgement : (specification : Description) → CircuitValue → CircuitJudgement
    → Type 0
IsSpecificationJudgement specification =
    IsCircuitJudgement (AcceptsNamed specification) (HasStrings specification)

-- what is wanted is that the word satisfies a formula
abbrev pub IsFormulaJudgement : NumberedFormula → CircuitValue → CircuitJudgement → Type 0
IsFormulaJudgement formula =
    IsCircuitJudgement (Satisfies (tree_of formula)) (IsOverStrings formula)
