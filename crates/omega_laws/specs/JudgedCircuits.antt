-- Laws of what `verify` answers of circuits, and of the circuits that `realize --aiger` writes, in words of what texts
-- describe.
use Rattle.std.specs.Prelude.{◌≡◌, ◌↔◌, Bool, List, ℕ, codes}
use Rattle.omega_text.specs.Omniscience.{LimitedPrincipleOfOmniscience}
use Rattle.omega_aiger.specs.Text.{IsCircuitText}
use Rattle.omega_circuit.specs.Circuit.{CircuitValue}
use Rattle.omega_hoa_automaton.specs.Automaton.{Description}
use Rattle.omega_io.specs.Answer.{IsYes}
use Rattle.omega_io.specs.declared.exit.Exit.{Exit}
use Rattle.omega_io.specs.declared.exit.Exit.TheVariants.{Done, No}
use Rattle.omega_lang_word_laws.specs.NamedWords.{AcceptsNamed}
use Rattle.omega_ltl_formula.specs.Building.{names_of}
use Rattle.omega_ltl_formula.specs.Formula.{FormulaTree}
use Rattle.omega_ltl_formula.specs.Meaning.{Satisfies}
use Rattle.omega_ltl_text.specs.Text.{SaysFormula}
use Rattle.omega_synth_check.specs.CounterRefusing.{system_numbers}
use Rattle.omega_synth_controllers.specs.Controllable.{IsStated}
use Rattle.omega_answers_circuit.specs.FormulaCircuit.{IsFormulaCircuitWritten}
use Rattle.omega_answers_circuit.specs.FormulaVerify.{IsFormulaCircuitAnswer}
use Rattle.omega_answers_circuit.specs.Judging.{AllAreWanted}
use Rattle.omega_answers_circuit.specs.Sides.{AreSided, input_names, output_names}
use Rattle.omega_answers_circuit.specs.Verify.{IsCircuitAnswer, IsSidedBy}
use Rattle.omega_answers_circuit.specs.WinningCircuit.{IsWinningCircuitAnswer}
use Rattle.omega_answers_circuit.specs.WritingLaws.{NamesSides}
use Rattle.omega_answers_circuit.specs.declared.circuit_form.CircuitForm.{CircuitForm}
use Rattle.omega_answers_synth.specs.Outputs.{NameLists}
use Rattle.omega_text.specs.NamedWords.{NamedWord}
use Rattle.omega_laws.specs.Describes.{Describes}
use Rattle.omega_laws.specs.RealizedFormulas.{SaysWhoWins, outputs_of}
use Rattle.omega_laws.specs.SpecificationTexts.{SaysWhoWinsText}

-- what an answer says of the text of a specification and of that of a circuit. The one says something, and the other a
-- circuit. Whatever they say, the circuit has the sides that the specification says, and the answer is `yes` exactly if
-- each word of the circuit is one of the specification
pub record SaysOfCircuit {A : Type 0} (IsSaid : A → Type 0) (HasSides : A → CircuitValue → Type 0)
    (HasWord : A → NamedWord → Type 0) (input : List ℕ) (exit : Exit) (output : List ℕ) : Type 0 where
  pub said : (a : A) × IsSaid a
  pub circuit_said : (c : CircuitValue) × IsCircuitText input c
  pub sided : (a : A) (c : CircuitValue) → IsSaid a → IsCircuitText input c → HasSides a c
  pub exact : (a : A) (c : CircuitValue) → IsSaid a → IsCircuitText input c
      → IsYes exit output ↔ AllAreWanted (HasWord a) c

-- by the limited principle of omniscience, the answers of `verify --specification` say so of the automaton that a text
-- describes, and of the words that it accepts
abbrev pub CircuitsAreJudged : Type 0
CircuitsAreJudged = LimitedPrincipleOfOmniscience
    → (file input output : List ℕ) (explain : Bool) (exit : Exit)
    → IsCircuitAnswer file input explain exit output
    → SaysOfCircuit (Describes file) IsSidedBy AcceptsNamed input exit output

-- no input of a circuit is named like an output of the formula, and no output like another name of the formula
abbrev pub HasSidesBy : NameLists → FormulaTree → CircuitValue → Type 0
HasSidesBy lists formula c =
    AreSided (names_of formula) (outputs_of lists formula) (input_names c) (output_names c)

-- by that principle, those of `verify -f` say so of the formula of a text, and of the words that satisfy it
abbrev pub FormulaCircuitsAreJudged : Type 0
FormulaCircuitsAreJudged = LimitedPrincipleOfOmniscience
    → (file input output : List ℕ) (lists : NameLists) (explain : Bool) (exit : Exit)
    → IsFormulaCircuitAnswer file lists input explain exit output
    → SaysOfCircuit (SaysFormula file) (HasSidesBy lists) Satisfies input exit output

-- a text is that of a circuit each word of which satisfies a formula. Its inputs and outputs are the names of the
-- formula
pub record IsCircuitFor (formula : FormulaTree) (outs : List (List ℕ)) (text : List ℕ) : Type 0 where
  pub circuit : CircuitValue
  pub says : IsCircuitText text circuit
  pub named : NamesSides (names_of formula) (system_numbers (names_of formula) outs) circuit
  pub satisfies : AllAreWanted (Satisfies formula) circuit

-- what `realize -f --aiger` writes: such a circuit, or the line that there is none
abbrev pub WritesCircuit : FormulaTree → (outs : List (List ℕ)) → Exit → (output : List ℕ) → Type 0
WritesCircuit formula outs Done output = IsCircuitFor formula outs output
WritesCircuit formula outs No output = output ≡ codes "unrealizable\n"

-- by that principle, its exit says who wins, and it writes so for each formula that the text says
abbrev pub FormulaCircuitsAreExact : Type 0
FormulaCircuitsAreExact = LimitedPrincipleOfOmniscience
    → (form : CircuitForm) (text output : List ℕ) (lists : NameLists) (exit : Exit)
    → IsFormulaCircuitWritten form text lists exit output
    → SaysWhoWins text lists exit
    × ((tree : FormulaTree) → SaysFormula text tree → WritesCircuit tree (outputs_of lists tree) exit output)

-- a text is that of a circuit each word of which an automaton accepts. Its inputs and outputs are the propositions of
-- the automaton
pub record IsCircuitOf (a : Description) (controlled : List ℕ) (text : List ℕ) : Type 0 where
  pub circuit : CircuitValue
  pub says : IsCircuitText text circuit
  pub named : NamesSides a.propositions controlled circuit
  pub accepted : AllAreWanted (AcceptsNamed a) circuit

-- what `realize --aiger` writes: such a circuit, where the item of the automaton says what the system controls, or the
-- line that there is none
abbrev pub WritesCircuitOf : Description → Exit → (output : List ℕ) → Type 0
WritesCircuitOf a Done output =
    (controlled : List ℕ) × IsStated a controlled × IsCircuitOf a controlled output
WritesCircuitOf a No output = output ≡ codes "unrealizable\n"

-- by that principle, its exit says who wins, and it writes so for each automaton that the text describes
abbrev pub WinningCircuitsAreExact : Type 0
WinningCircuitsAreExact = LimitedPrincipleOfOmniscience
    → (form : CircuitForm) (text output : List ℕ) (exit : Exit)
    → IsWinningCircuitAnswer form text exit output
    → SaysWhoWinsText text exit
    × ((a : Description) → Describes text a → WritesCircuitOf a exit output)
