-- Laws of the answers of `verify` to the text of a circuit.
use Rattle.std.specs.Prelude.{◌↔◌, ℕ, Bool, List}
use Rattle.omega_aiger.specs.Text.{IsCircuitText}
use Rattle.omega_answers_formula.specs.Formula.{IsFormulaOfText}
use Rattle.omega_answers_synth.specs.Outputs.{NameLists}
use Rattle.omega_circuit.specs.Circuit.{CircuitValue}
use Rattle.omega_hoa.specs.Alone.{IsAutomatonText}
use Rattle.omega_hoa_automaton.specs.Automaton.{Description}
use Rattle.omega_io.specs.Answer.{IsYes}
use Rattle.omega_io.specs.declared.exit.Exit.{Exit}
use Rattle.omega_io.specs.declared.exit.Exit.TheVariants.{Done, No}
use Rattle.omega_lang_word_laws.specs.NamedWords.{AcceptsNamed}
use Rattle.omega_ltl_formula.specs.Meaning.{Satisfies}
use Rattle.omega_ltl_formula.specs.Table.{NumberedFormula, tree_of}
use Rattle.omega_text.specs.Omniscience.{LimitedPrincipleOfOmniscience}
use Rattle.omega_answers_circuit.specs.FormulaVerify.{IsFormulaCircuitAnswer}
use Rattle.omega_answers_circuit.specs.Judging.{AllAreWanted}
use Rattle.omega_answers_circuit.specs.Verify.{IsCircuitAnswer}

-- by the limited principle of omniscience, `yes` is written exactly if the specification of the one text accepts each
-- word of the circuit of the other
abbrev pub CircuitVerdictsAreExact : Type 0
CircuitVerdictsAreExact = LimitedPrincipleOfOmniscience → (file input output : List ℕ) (explain : Bool)
    (exit : Exit) (specification : Description) (c : CircuitValue) → IsAutomatonText file specification
    → IsCircuitText input c → IsCircuitAnswer file input explain exit output
    → IsYes exit output ↔ AllAreWanted (AcceptsNamed specification) c

-- by that principle, no two texts are answered both `yes` and `no`
abbrev pub CircuitYesExcludesNo : Type 0
CircuitYesExcludesNo = LimitedPrincipleOfOmniscience → (file input output other : List ℕ)
    (explain also_explain : Bool) → IsCircuitAnswer file input explain Done output
    → ¬ IsCircuitAnswer file input also_explain No other

-- by that principle, `yes` is written exactly if each word of the circuit satisfies the formula
abbrev pub FormulaCircuitVerdictsAreExact : Type 0
FormulaCircuitVerdictsAreExact = LimitedPrincipleOfOmniscience → (file input output : List ℕ)
    (lists : NameLists) (explain : Bool) (exit : Exit) (formula : NumberedFormula) (c : CircuitValue)
    → IsFormulaOfText file formula → IsCircuitText input c
    → IsFormulaCircuitAnswer file lists input explain exit output
    → IsYes exit output ↔ AllAreWanted (Satisfies (tree_of formula)) c

-- by that principle, no formula and circuit are answered both `yes` and `no`, whatever names are given
abbrev pub FormulaCircuitYesExcludesNo : Type 0
FormulaCircuitYesExcludesNo = LimitedPrincipleOfOmniscience → (file input output other : List ℕ)
    (lists other_lists : NameLists) (explain also_explain : Bool)
    → IsFormulaCircuitAnswer file lists input explain Done output
    → ¬ IsFormulaCircuitAnswer file other_lists input also_explain No other
