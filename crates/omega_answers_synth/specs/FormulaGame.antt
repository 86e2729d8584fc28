-- The answer of `realize -f --game` for the text of a formula and the names that are given: the game in which it is
-- decided who wins, or a refusal.
use Rattle.std.specs.Prelude.{◌≡◌, ◌⊎◌, List, ℕ}
use Rattle.omega_text.specs.Cases.{IsMemory}
use Rattle.omega_text.specs.declared.refusal.Refusal.{Refusal}
use Rattle.omega_hoa_automaton.specs.Automaton.{Description}
use Rattle.omega_game_values.specs.Game.{Node}
use Rattle.omega_pg.specs.game.Canonical.{canonical_game}
use Rattle.omega_answers_formula.specs.Deterministic.{IsNotDetermined}
use Rattle.omega_answers_formula.specs.Formula.{OfFormula}
use Rattle.omega_ltl_deterministic.specs.Candidate.{IsCandidate}
use Rattle.omega_ltl_equality.specs.Judging.{IsJudged}
use Rattle.omega_ltl_formula.specs.Table.{NumberedFormula, tree_of}
use Rattle.omega_ltl_text.specs.Text.{IsFormulaTextRefusal}
use Rattle.omega_synth_realize.specs.Gaming.{IsRealizabilityGame, IsRealizabilityGameRefusal}
use Rattle.omega_answers_synth.specs.FormulaRefusing.{IsOwnRefusal}
use Rattle.omega_answers_synth.specs.Outputs.{IsRefusalWithLists, NameLists, OfOutputs, output_numbers}

-- an automaton is deterministic and accepts exactly the words that satisfy the formula, over the formula's names
pub record IsAutomatonOfFormula (formula : NumberedFormula) (a : Description) : Type 0 where
  pub judged : IsJudged (tree_of formula) a
  pub form : IsCandidate formula.table.names a

-- the game of such an automaton, where the system controls the outputs
pub record IsFormulaGame (formula : NumberedFormula) (outs : List (List ℕ)) (nodes : List Node)
    : Type 0 where
  pub automaton : Description
  pub right : IsAutomatonOfFormula formula automaton
  pub game : IsRealizabilityGame automaton (output_numbers automaton outs) nodes

-- so it is with the lists of names that are given
abbrev pub IsNamedGame : NumberedFormula → NameLists → (nodes : List Node) → Type 0
IsNamedGame formula lists nodes = OfOutputs formula lists (λ outs. IsFormulaGame formula outs nodes)

-- the canonical text of that game
pub record IsFormulaGameText (formula : NumberedFormula) (lists : NameLists) (output : List ℕ)
    : Type 0 where
  pub nodes : List Node
  pub game : IsNamedGame formula lists nodes
  pub written : output ≡ canonical_game nodes

-- the answer of `realize -f --game`: the canonical text of the game of the formula of the text
abbrev pub IsFormulaGameAnswer : (text : List ℕ) → NameLists → (output : List ℕ) → Type 0
IsFormulaGameAnswer text lists output = OfFormula (λ formula. IsFormulaGameText formula lists output) text

-- why there is no game for a formula and its outputs: no automaton of the formula is found, or its game is refused
pub data IsNotGamed (formula : NumberedFormula) (outs : List (List ℕ)) (refusal : Refusal)
    : Type 0 where
  no_memory : IsMemory refusal → IsNotGamed formula outs refusal
  not_determined : IsNotDetermined formula refusal → IsNotGamed formula outs refusal
  not_made : (a : Description) → IsAutomatonOfFormula formula a
      → IsOwnRefusal (IsRealizabilityGameRefusal a (output_numbers a outs)) refusal
      → IsNotGamed formula outs refusal

-- so it is with the lists of names that are given
abbrev pub RefusesNamedGame : NumberedFormula → NameLists → Refusal → Type 0
RefusesNamedGame formula lists = IsRefusalWithLists formula lists (IsNotGamed formula)

-- the refusal of `realize -f --game`: that of the formula's text, or else that of its game
abbrev pub IsFormulaGameRefusal : (text : List ℕ) → NameLists → Refusal → Type 0
IsFormulaGameRefusal text lists refusal = IsFormulaTextRefusal text refusal
    ⊎ OfFormula (λ formula. RefusesNamedGame formula lists refusal) text
