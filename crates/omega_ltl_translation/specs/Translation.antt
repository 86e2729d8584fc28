-- The automaton of a formula, or of its negation: which words it accepts, and what its header says.
use Rattle.std.specs.Prelude.{◌≡◌, ℕ, Bool, true, false, List, [], ◌∷◌, Option, None, Some}
use Rattle.omega_text.specs.NamedWords.{NamedWord}
use Rattle.omega_text.specs.Omniscience.{LimitedPrincipleOfOmniscience}
use Rattle.omega_hoa_acceptance.specs.Kind.{buchi_formula}
use Rattle.omega_hoa_automaton.specs.Automaton.{Description}
use Rattle.omega_hoa_automaton.specs.Branching.{has_universal_branching}
use Rattle.omega_lang_product.specs.Acceptance.{buchi_name}
use Rattle.omega_lang_word_laws.specs.NamedWords.{AcceptsNamed}
use Rattle.omega_ltl_formula.specs.Formula.{FormulaTree, unary}
use Rattle.omega_ltl_formula.specs.Meaning.{Satisfies}
use Rattle.omega_ltl_formula.specs.declared.operators.UnaryOperator.TheVariants.{Not}

-- a formula, or its negation
abbrev pub asked_tree : (negated : Bool) → FormulaTree → FormulaTree
asked_tree false formula = formula
asked_tree true formula = unary Not formula

-- an automaton accepts only words that satisfy a formula, and, by the limited principle of omniscience, all of them
pub record IsTranslation (formula : FormulaTree) (a : Description) : Type 0 where
  pub sound : (word : NamedWord) → AcceptsNamed a word → Satisfies formula word
  pub complete : LimitedPrincipleOfOmniscience → (word : NamedWord) → Satisfies formula word
      → AcceptsNamed a word

-- an automaton without universal branching, in which each set has to recur, as the name of its acceptance says
pub record IsGeneralizedBuchi (a : Description) : Type 0 where
  pub acceptance : a.acceptance ≡ buchi_formula a.sets
  pub named : a.acc_name ≡ Some (buchi_name a.sets)
  pub plain : has_universal_branching a ≡ false

-- the name in a header: none if no bytes are given
abbrev pub given_name : List ℕ → Option (List ℕ)
given_name [] = None
given_name (byte ∷ bytes) = Some (byte ∷ bytes)

-- an automaton has this name and these propositions, and begins in state 0
pub record HasHeader (name : Option (List ℕ)) (propositions : List (List ℕ)) (a : Description) : Type 0 where
  pub name_is : a.name ≡ name
  pub propositions_are : a.propositions ≡ propositions
  pub starts : a.starts ≡ (0 ∷ []) ∷ []

-- by the limited principle of omniscience, what the automaton of a negation does not accept satisfies the formula
abbrev pub RejectedWordsSatisfy : Type 0
RejectedWordsSatisfy = LimitedPrincipleOfOmniscience → (formula : FormulaTree) (a : Description)
    → IsTranslation (unary Not formula) a
    → (word : NamedWord) → (AcceptsNamed a word → ⊥) → Satisfies formula word
