-- What an answer about the automaton of a circuit says of the circuit.
use Rattle.std.proofs.Common.{ℕ, List, sym, subst}
use Rattle.std.specs.List.{AllByRecursion}
use Rattle.std.proofs.lemmas.List.Elements.{recursion_from_All}
use Rattle.omega_circuit.specs.Circuit.{CircuitValue}
use Rattle.omega_circuit_automaton.specs.Names.{AreFit, proposition_names}
use Rattle.omega_hoa_automaton.specs.Automaton.{Description}
use Rattle.omega_lang_inclusion.specs.Containing.{IsContained, IsCounterexample, IsOutside}
use Rattle.omega_lang_intersection.specs.Intersection.{HaveStrings, IsExample}
use Rattle.omega_lang_intersection.specs.declared.answer.Example.{Example}
use Rattle.omega_lang_lasso_word.specs.Laws.{HasStrings}
use Rattle.omega_lang_word_laws.specs.NamedWords.{AcceptsNamed}
use Rattle.omega_ltl_formula.specs.Meaning.{Satisfies}
use Rattle.omega_ltl_formula.specs.Table.{NumberedFormula, tree_of}
use Rattle.omega_ltl_satisfaction.specs.Satisfaction.{AllSatisfy, IsOverStrings, IsUnsatisfying, IsUnsatisfyingExample}
use Rattle.omega_text.specs.NamedWords.{NamedWord}
use Rattle.omega_text.specs.Omniscience.{LimitedPrincipleOfOmniscience}
use Rattle.omega_text.specs.hoa.Forms.{IsQuotable}
use Rattle.omega_answers_circuit.specs.Judging.{IsFormulaJudgement, IsSpecificationJudgement, IsUnwanted}
use Rattle.omega_answers_circuit.specs.Sides.{IsAutomatonOf}
use Rattle.omega_answers_circuit.specs.declared.judgement.CircuitJudgement.TheVariants.{Realizes, Violates}

-- an example of some words is one of others, if its words are such
example_of : (a : Description) (AreStrings Strings : Type 0) (IsWanted IsOther : NamedWord → Type 0) (example : Example)
    → (Strings → AreStrings) → ((word : NamedWord) → IsWanted word → IsOther word) → IsExample a AreStrings IsWanted example → IsExample a Strings IsOther example
example_of a AreStrings Strings IsWanted IsOther example strings other shown = record {
  word = shown.word;
  wanted = other shown.word shown.wanted;
  fits = λ are. shown.fits (strings are);
  all_wanted = λ are word fits. other word (shown.all_wanted (strings are) word fits);
  lasso = shown.lasso;
  goes_along = λ are word fits. shown.goes_along (strings are) word fits;
}

module _ (c : CircuitValue) (a : Description) (of_circuit : IsAutomatonOf c a) (fit : AreFit (proposition_names c)) where
  strings : HasStrings a
  strings =
      subst (λ (names : List (List ℕ)). AllByRecursion IsQuotable names) (sym of_circuit.header.propositions)
      (recursion_from_All IsQuotable (proposition_names c) fit.quotable)

  module _ (specification : Description) where
    -- a specification accepts each word of the circuit
    pub contained : IsContained a specification → IsSpecificationJudgement specification c Realizes
    contained is omniscient word of_word = is.all omniscient word ((of_circuit.words word).1 of_word)

    -- or does not accept some
    pub not_contained : (example : Example) → IsCounterexample a specification example → IsSpecificationJudgement specification c (Violates example)
    not_contained example is = record {
      automaton = a;
      of_circuit = of_circuit;
      shown = example_of a (HaveStrings a specification) (HasStrings specification) (IsOutside a specification) (IsUnwanted (AcceptsNamed specification) c) example
          (λ are. (strings, are)) (λ word out. record { of_circuit = (of_circuit.words word).0 out.accepted; unwanted = out.not_accepted }) is;
    }

  module _ (formula : NumberedFormula) where
    -- each word of the circuit satisfies a formula
    pub satisfied : (LimitedPrincipleOfOmniscience → AllSatisfy a (tree_of formula)) → IsFormulaJudgement formula c Realizes
    satisfied is omniscient word of_word = is omniscient word ((of_circuit.words word).1 of_word)

    -- or some does not
    pub not_satisfied : (example : Example) → IsUnsatisfyingExample a formula example → IsFormulaJudgement formula c (Violates example)
    not_satisfied example is = record {
      automaton = a;
      of_circuit = of_circuit;
      shown = example_of a (HasStrings a × IsOverStrings formula) (IsOverStrings formula) (IsUnsatisfying a (tree_of formula))
          (IsUnwanted (Satisfies (tree_of formula)) c) example
          (λ are. (strings, are)) (λ word out. record { of_circuit = (of_circuit.words word).0 out.accepted; unwanted = out.not_satisfied }) is;
    }
