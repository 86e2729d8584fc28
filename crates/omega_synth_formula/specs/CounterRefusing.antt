-- Which automata are not judged as counter-strategies for a formula: those that are not deterministic, those whose
-- acceptance is not `all`, and those whose letters or whose words cannot be decided.
use Rattle.std.specs.Prelude.{ℕ, List}
use Rattle.omega_text.specs.Cases.{IsMemory}
use Rattle.omega_text.specs.declared.refusal.Refusal.{Refusal}
use Rattle.omega_hoa_automaton.specs.Automaton.{Description}
use Rattle.omega_lang_complement.specs.Complement.{HasComplement}
use Rattle.omega_ltl_formula.specs.Table.{NumberedFormula}
use Rattle.omega_ltl_satisfaction.specs.Refusing.{IsSatisfyingWordsRefusal}
use Rattle.omega_synth_check.specs.Refusing.{IsFormRefusal, IsReadable}
use Rattle.omega_synth_formula.specs.Following.{IsLetterlessRefusal}

-- the strategy can be read as one, and has a complement
pub record IsCounterReadable (strategy : Description) : Type 0 where
  pub readable : IsReadable strategy
  pub given : HasComplement strategy

-- the refusal of the judge, in the order of its steps; memory can be wanting in each
pub data IsFormulaCounterRefusal (formula : NumberedFormula) (strategy : Description)
    (controlled : List (List ℕ)) (refusal : Refusal) : Type 0 where
  not_read : IsFormRefusal strategy refusal
      → IsFormulaCounterRefusal formula strategy controlled refusal
  no_memory : IsMemory refusal → IsFormulaCounterRefusal formula strategy controlled refusal
  no_letters : IsReadable strategy → IsLetterlessRefusal strategy controlled refusal
      → IsFormulaCounterRefusal formula strategy controlled refusal
  not_decided : IsCounterReadable strategy → IsSatisfyingWordsRefusal strategy formula refusal
      → IsFormulaCounterRefusal formula strategy controlled refusal
