-- The answer of `verify -f` for the text of a formula, which is that of a file, the names that are given, and the text
-- of a circuit: whether each word of the circuit satisfies the formula. A name of the formula is the input or output of
-- that name.
use Rattle.std.specs.Prelude.{◌≡◌, ◌⊎◌, ℕ, Bool, List, Option, None, Some}
use Rattle.omega_aiger.specs.Text.{IsCircuitText, IsCircuitTextRefusal}
use Rattle.omega_answers.specs.TwoTexts.{IsEitherRefused, OfBoth}
use Rattle.omega_answers_formula.specs.Formula.{IsFormulaOfText}
use Rattle.omega_answers_synth.specs.Outputs.{IsRefusedWithLists, NameLists, OfOutputs}
use Rattle.omega_circuit.specs.Circuit.{CircuitValue}
use Rattle.omega_hoa_automaton.specs.Automaton.{Description}
use Rattle.omega_io.specs.Answer.{IsReply}
use Rattle.omega_io.specs.Refused.{about_none}
use Rattle.omega_io.specs.declared.exit.Exit.{Exit}
use Rattle.omega_io.specs.declared.refused.Refused.{Refused}
use Rattle.omega_io.specs.declared.refused.Which.{Which}
use Rattle.omega_io.specs.declared.refused.Which.TheVariants.{Input}
use Rattle.omega_ltl_formula.specs.Table.{NumberedFormula}
use Rattle.omega_ltl_satisfaction.specs.Refusing.{IsSatisfactionRefusal}
use Rattle.omega_ltl_text.specs.Text.{IsFormulaTextRefusal}
use Rattle.omega_text.specs.declared.refusal.Refusal.{Refusal}
use Rattle.omega_text.specs.declared.refusal.Refusal.TheVariants.{Memory}
use Rattle.omega_answers_circuit.specs.JudgementAnswer.{judgement_answer}
use Rattle.omega_answers_circuit.specs.Judging.{IsFormulaJudgement}
use Rattle.omega_answers_circuit.specs.Sides.{IsAutomatonOf, IsSided, IsUnsided}
use Rattle.omega_answers_circuit.specs.declared.judgement.CircuitJudgement.{CircuitJudgement}

-- a circuit stands on the sides of a formula, of whose names the system controls the outputs
abbrev pub IsSidedFor : NumberedFormula → (outs : List (List ℕ)) → CircuitValue → Type 0
IsSidedFor formula = IsSided formula.table.names

-- a judgement on a circuit by a formula is right, and the two agree on the sides
pub record IsJudgedFor (formula : NumberedFormula) (outs : List (List ℕ)) (c : CircuitValue)
    (judgement : CircuitJudgement) : Type 0 where
  pub sided : IsSidedFor formula outs c
  pub right : IsFormulaJudgement formula c judgement

-- what is written of a formula, its outputs and a circuit is right: `yes` if each word of the circuit satisfies the
-- formula, and else `no` with a counterexample
pub record IsFormulaCircuitVerdict (formula : NumberedFormula) (outs : List (List ℕ)) (c : CircuitValue)
    (explain : Bool) (exit : Exit) (output : List ℕ) : Type 0 where
  pub judgement : CircuitJudgement
  pub judged : IsJudgedFor formula outs c judgement
  pub reply : IsReply (judgement_answer explain judgement) exit output

-- so it is with the lists of names that are given
abbrev pub IsNamedCircuitVerdict : NumberedFormula → NameLists → CircuitValue → (explain : Bool) → Exit
    → List ℕ → Type 0
IsNamedCircuitVerdict formula lists c explain exit output = OfOutputs formula lists
    (λ outs. IsFormulaCircuitVerdict formula outs c explain exit output)

-- the texts are those of a formula and of a circuit, and this holds of the two
abbrev pub OfFormulaAndCircuit : (NumberedFormula → CircuitValue → Type 0) → (file input : List ℕ) → Type 0
OfFormulaAndCircuit Holds file input = OfBoth (IsFormulaOfText file) (IsCircuitText input) Holds

-- the answer of `verify -f`: the texts are such, and what is written of the two is right
abbrev pub IsFormulaCircuitAnswer : (file : List ℕ) → NameLists → (input : List ℕ) → (explain : Bool)
    → Exit → List ℕ → Type 0
IsFormulaCircuitAnswer file lists input explain exit output = OfFormulaAndCircuit
    (λ formula c. IsNamedCircuitVerdict formula lists c explain exit output) file input

-- the refusal for a formula, its outputs and a circuit, and the text that it is about: that of the circuit's names,
-- sides and automaton, then that of satisfaction, which is about neither
pub data IsFormulaCircuitPairRefusal (formula : NumberedFormula) (outs : List (List ℕ))
    (c : CircuitValue) : Option Which → Refusal → Type 0 where
  unsided : (refusal : Refusal) → IsUnsided formula.table.names outs c refusal
      → IsFormulaCircuitPairRefusal formula outs c (Some Input) refusal
  not_satisfied : (a : Description) (refusal : Refusal) → IsSidedFor formula outs c → IsAutomatonOf c a
      → IsSatisfactionRefusal a formula refusal
      → IsFormulaCircuitPairRefusal formula outs c None refusal

-- the two are refused so, or memory is
abbrev pub RefusesFormulaCircuit : NumberedFormula → (outs : List (List ℕ)) → CircuitValue → Refused
    → Type 0
RefusesFormulaCircuit formula outs c refused = (refused ≡ about_none Memory)
    ⊎ IsFormulaCircuitPairRefusal formula outs c refused.text refused.refusal

-- the lists do not part the names of the formula, or else the two are refused so
abbrev pub RefusesNamedCircuit : NumberedFormula → NameLists → CircuitValue → Refused → Type 0
RefusesNamedCircuit formula lists c =
    IsRefusedWithLists formula lists (λ outs. RefusesFormulaCircuit formula outs c)

-- the refusal of `verify -f`: that of one of the texts, or else that of the two
abbrev pub IsFormulaCircuitRefused : (file : List ℕ) → NameLists → (input : List ℕ) → Refused → Type 0
IsFormulaCircuitRefused file lists input refused =
    IsEitherRefused (IsFormulaOfText file) (IsFormulaTextRefusal file) (IsCircuitTextRefusal input) refused
    ⊎ OfFormulaAndCircuit (λ formula c. RefusesNamedCircuit formula lists c refused) file input
