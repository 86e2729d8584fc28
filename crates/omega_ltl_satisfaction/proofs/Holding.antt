-- Each conjunct of a formula holds where the formula does, by the limited principle of omniscience.
use Rattle.std.proofs.Common.{ℕ, inl, inr, List, [], ◌∷◌}
use Rattle.std.specs.List.{AllByRecursion}
use Rattle.omega_text.specs.NamedWords.{NamedWord}
use Rattle.omega_text.specs.Omniscience.{LimitedPrincipleOfOmniscience}
use Rattle.omega_ltl_formula.specs.Formula.{FormulaTree}
use Rattle.omega_ltl_formula.specs.Meaning.{Satisfies}
use Rattle.omega_ltl_formula.proofs.Deciding.{decides}
use Rattle.omega_ltl_formula.proofs.Decisions.{Decided, stable}
use Rattle.omega_ltl_satisfaction.specs.Conjuncts.{IsConjunctOf, conclusion, itself, left, not_left}
use Rattle.omega_ltl_satisfaction.specs.Conjuncts.{not_negated, not_right, premise, right}
use Rattle.omega_ltl_satisfaction.specs.declared.conjunct.Conjunct.{Conjunct}
use Rattle.omega_ltl_satisfaction.specs.private.Conjuncts.{AreMet, conjunct_over}

module _ (omniscience : LimitedPrincipleOfOmniscience) (word : NamedWord) where
  pub decided : (f : FormulaTree) → Decided (Satisfies f word)
  decided f = decides omniscience f word 0

  pub conjunct_holds : (whole part : FormulaTree) → IsConjunctOf whole part → Satisfies whole word → Satisfies part word
  conjunct_holds whole part itself holds = holds
  conjunct_holds whole part (left f g is) holds = (conjunct_holds whole _ is holds).0
  conjunct_holds whole part (right f g is) holds = (conjunct_holds whole _ is holds).1
  conjunct_holds whole part (not_left f g is) holds = λ first. conjunct_holds whole _ is holds (inl first)
  conjunct_holds whole part (not_right f g is) holds = λ second. conjunct_holds whole _ is holds (inr second)
  conjunct_holds whole part (premise f g is) holds =
      stable (decided f) (λ fails. conjunct_holds whole _ is holds (λ first. absurd (fails first)))
  conjunct_holds whole part (conclusion f g is) holds = λ second. conjunct_holds whole _ is holds (λ first. second)
  conjunct_holds whole part (not_negated f is) holds = stable (decided f) (conjunct_holds whole _ is holds)

  -- so do all
  pub all_hold : (tree : ℕ → FormulaTree) (whole : FormulaTree) (conjuncts : List Conjunct) → AllByRecursion (λ (c : Conjunct). IsConjunctOf whole (conjunct_over tree c)) conjuncts
      → Satisfies whole word → AreMet tree conjuncts word
  all_hold tree whole [] each holds = tt
  all_hold tree whole (c ∷ conjuncts) each holds = (conjunct_holds whole (conjunct_over tree c) each.0 holds, all_hold tree whole conjuncts each.1 holds)
