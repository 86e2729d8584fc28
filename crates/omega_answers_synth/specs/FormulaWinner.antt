-- The answers of `realize -f` for the text of a formula and the names that are given: whether some system satisfies the
-- formula, and the automaton that shows it. Whatever search found that automaton, it is judged.
use Rattle.std.specs.Prelude.{◌≡◌, List, ℕ, codes}
use Rattle.omega_hoa.specs.Alone.{IsAutomatonText}
use Rattle.omega_hoa_automaton.specs.Automaton.{Description}
use Rattle.omega_io.specs.declared.exit.Exit.{Exit}
use Rattle.omega_io.specs.declared.exit.Exit.TheVariants.{Done, No}
use Rattle.omega_answers_formula.specs.Formula.{OfFormula}
use Rattle.omega_ltl_deterministic.specs.Candidate.{IsCandidate}
use Rattle.omega_ltl_formula.specs.Table.{NumberedFormula}
use Rattle.omega_synth_check.specs.Refusing.{IsReadable}
use Rattle.omega_synth_formula.specs.CounterJudging.{IsFormulaCounterJudgement}
use Rattle.omega_synth_formula.specs.CounterRefusing.{IsCounterReadable}
use Rattle.omega_synth_formula.specs.Judging.{IsFormulaJudgement}
use Rattle.omega_synth_formula.specs.declared.counter.FormulaCounterJudgement.TheVariants.{Beats}
use Rattle.omega_synth_formula.specs.declared.judgement.FormulaJudgement.TheVariants.{Controls}
use Rattle.omega_answers_synth.specs.Outputs.{AreOutputs, NameLists, OfOutputs, output_numbers}
use Rattle.omega_answers_synth.specs.Winner.{IsWinner}

-- an automaton is judged to be a controller for the formula: as `verify -f` judges it
pub record IsJudgedController (formula : NumberedFormula) (outs : List (List ℕ))
    (controller : Description) : Type 0 where
  pub outputs : AreOutputs outs controller
  pub readable : IsReadable controller
  pub right : IsFormulaJudgement formula controller (output_numbers controller outs) Controls

-- or to be a counter-strategy
pub record IsJudgedCounterStrategy (formula : NumberedFormula) (outs : List (List ℕ))
    (strategy : Description) : Type 0 where
  pub outputs : AreOutputs outs strategy
  pub readable : IsCounterReadable strategy
  pub right : IsFormulaCounterJudgement formula strategy outs Beats

-- a controller, or, with an exit of its own, a counter-strategy
abbrev pub IsJudgedWinner : NumberedFormula → (outs : List (List ℕ)) → Exit → Description → Type 0
IsJudgedWinner formula outs Done a = IsJudgedController formula outs a
IsJudgedWinner formula outs No a = IsJudgedCounterStrategy formula outs a

-- the text is that of the winner of an automaton that is proposed for the formula, over the formula's names
pub record IsProposedWinner (formula : NumberedFormula) (outs : List (List ℕ)) (exit : Exit)
    (text : List ℕ) : Type 0 where
  pub automaton : Description
  pub form : IsCandidate formula.table.names automaton
  pub winner : IsWinner automaton (output_numbers automaton outs) exit text

-- the text is such a one, and that of an automaton that is judged
pub record IsFormulaWinner (formula : NumberedFormula) (outs : List (List ℕ)) (exit : Exit)
    (text : List ℕ) : Type 0 where
  pub proposed : IsProposedWinner formula outs exit text
  pub automaton : Description
  pub read : IsAutomatonText text automaton
  pub judged : IsJudgedWinner formula outs exit automaton

-- so it is with the lists of names that are given
abbrev pub IsNamedWinner : NumberedFormula → NameLists → Exit → (output : List ℕ) → Type 0
IsNamedWinner formula lists exit output =
    OfOutputs formula lists (λ outs. IsFormulaWinner formula outs exit output)

-- the answer of `realize -f --controller`: the winner's automaton for the formula of the text
abbrev pub IsFormulaWinnerAnswer : (text : List ℕ) → NameLists → Exit → (output : List ℕ) → Type 0
IsFormulaWinnerAnswer text lists exit output =
    OfFormula (λ formula. IsNamedWinner formula lists exit output) text

-- the line that tells who wins
abbrev pub verdict_line : Exit → List ℕ
verdict_line Done = codes "realizable\n"
verdict_line No = codes "unrealizable\n"

-- the answer of `realize -f`: the line of the exit with which some winner's automaton is an answer too
pub record IsFormulaRealizeAnswer (text : List ℕ) (lists : NameLists) (exit : Exit)
    (output : List ℕ) : Type 0 where
  pub winner : List ℕ
  pub found : IsFormulaWinnerAnswer text lists exit winner
  pub line : output ≡ verdict_line exit
