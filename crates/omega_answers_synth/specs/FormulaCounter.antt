-- The answer of `verify -f --counter-strategy` for the text of a formula, which is that of a file, the names of the
-- outputs, and the text of an automaton: whether the automaton is a counter-strategy for the formula.
use Rattle.std.specs.Prelude.{◌≡◌, ◌⊎◌, ◌++◌, Bool, List, ℕ, Option, Some, codes, decimal}
use Rattle.omega_text.specs.declared.refusal.Refusal.{Refusal}
use Rattle.omega_text.specs.declared.refusal.Refusal.TheVariants.{Memory, Task}
use Rattle.omega_text.specs.declared.refusal.task.TaskFault.TheVariants.{Controllable}
use Rattle.omega_hoa_automaton.specs.Automaton.{Description}
use Rattle.omega_io.specs.Answer.{IsReply, no_for}
use Rattle.omega_io.specs.Refused.{about_none}
use Rattle.omega_io.specs.declared.answer.Answer.{Answer}
use Rattle.omega_io.specs.declared.answer.Answer.TheVariants.{Yes}
use Rattle.omega_io.specs.declared.exit.Exit.{Exit}
use Rattle.omega_io.specs.declared.refused.Refused.{Refused}
use Rattle.omega_io.specs.declared.refused.Which.{Which}
use Rattle.omega_io.specs.declared.refused.Which.TheVariants.{Input}
use Rattle.omega_lang_lasso_text.specs.Written.{numbers_text}
use Rattle.omega_answers_formula.specs.Satisfies.{IsFormulaOrAutomatonUnread, OfFormulaAndAutomaton}
use Rattle.omega_answers_inclusion.specs.Example.{example_lines}
use Rattle.omega_ltl_formula.specs.Table.{NumberedFormula}
use Rattle.omega_synth_formula.specs.CounterJudging.{IsFormulaCounterJudgement}
use Rattle.omega_synth_formula.specs.CounterRefusing.{IsCounterReadable, IsFormulaCounterRefusal}
use Rattle.omega_synth_formula.specs.declared.counter.FormulaCounterJudgement.{FormulaCounterJudgement}
use Rattle.omega_synth_formula.specs.declared.counter.FormulaCounterJudgement.TheVariants.{Beats}
use Rattle.omega_synth_formula.specs.declared.counter.FormulaCounterJudgement.TheVariants.{NoLetter}
use Rattle.omega_synth_formula.specs.declared.counter.FormulaCounterJudgement.TheVariants.{NoStart}
use Rattle.omega_synth_formula.specs.declared.counter.FormulaCounterJudgement.TheVariants.{Satisfying}
use Rattle.omega_synth_formula.specs.declared.counter.LetterlessState.{LetterlessState}
use Rattle.omega_answers_synth.specs.Counter.{counter_text}
use Rattle.omega_answers_synth.specs.Outputs.{AreNotOutputs, AreOutputs, IsRefusedWithLists, NameLists, OfOutputs}

-- the lines of a state in which the environment has no letter: its number, and the edges that lead there from a start
abbrev pub state_lines : LetterlessState → List ℕ
state_lines letterless = codes "state " ++ (decimal letterless.state
    ++ (codes "\nstem" ++ (numbers_text letterless.stem ++ codes "\n")))

-- `yes`, or `no`, explained by what the automaton lacks
abbrev pub formula_counter_answer : (explain : Bool) → FormulaCounterJudgement → Answer
formula_counter_answer explain Beats = Yes
formula_counter_answer explain NoStart = no_for explain (codes "no start\n")
formula_counter_answer explain (NoLetter letterless) = no_for explain (state_lines letterless)
formula_counter_answer explain (Satisfying example) = no_for explain (example_lines example)

-- what is written of a formula and an automaton is right: `yes` if it is a counter-strategy for the formula, where the
-- system controls the propositions that are outputs, and else `no` with the reason
pub record IsFormulaCounterVerdict (formula : NumberedFormula) (outs : List (List ℕ))
    (strategy : Description) (explain : Bool) (exit : Exit) (output : List ℕ) : Type 0 where
  pub outputs : AreOutputs outs strategy
  pub readable : IsCounterReadable strategy
  pub judgement : FormulaCounterJudgement
  pub right : IsFormulaCounterJudgement formula strategy outs judgement
  pub reply : IsReply (formula_counter_answer explain judgement) exit output

-- so it is with the lists of names that are given
abbrev pub IsNamedCounterVerdict : NumberedFormula → NameLists → (strategy : Description)
    → (explain : Bool) → Exit → List ℕ → Type 0
IsNamedCounterVerdict formula lists strategy explain exit output = OfOutputs formula lists
    (λ outs. IsFormulaCounterVerdict formula outs strategy explain exit output)

-- the answer of `verify -f --counter-strategy`: the texts are those of a formula and an automaton, and what is written
-- of the two is right
abbrev pub IsFormulaCounterAnswer : (file : List ℕ) → NameLists → (input : List ℕ)
    → (explain : Bool) → Exit → List ℕ → Type 0
IsFormulaCounterAnswer file lists input explain exit output =
    OfFormulaAndAutomaton (λ formula strategy.
    IsNamedCounterVerdict formula lists strategy explain exit output) file input

-- the refusal for a formula, its outputs and an automaton, and the text that it is about: that of the automaton's item,
-- then that of the judge, whose universal branching, choice and acceptance that is not `all` are the automaton's
pub data IsFormulaCounterPairRefusal (formula : NumberedFormula) (outs : List (List ℕ))
    (strategy : Description) : Option Which → Refusal → Type 0 where
  not_outputs : AreNotOutputs outs strategy
      → IsFormulaCounterPairRefusal formula outs strategy (Some Input) (Task Controllable)
  not_judged : (refusal : Refusal) → AreOutputs outs strategy
      → IsFormulaCounterRefusal formula strategy outs refusal
      → IsFormulaCounterPairRefusal formula outs strategy (counter_text refusal) refusal

-- the two are refused so, or memory is
abbrev pub RefusesFormulaCounter : NumberedFormula → (outs : List (List ℕ)) → (strategy : Description)
    → Refused → Type 0
RefusesFormulaCounter formula outs strategy refused = (refused ≡ about_none Memory)
    ⊎ IsFormulaCounterPairRefusal formula outs strategy refused.text refused.refusal

-- the lists do not part the names of the formula, or else the two are refused so
abbrev pub RefusesNamedCounter : NumberedFormula → NameLists → (strategy : Description)
    → Refused → Type 0
RefusesNamedCounter formula lists strategy = IsRefusedWithLists formula lists
    (λ outs. RefusesFormulaCounter formula outs strategy)

-- the refusal of `verify -f --counter-strategy`: that of one of the texts, or else that of the two
abbrev pub IsFormulaCounterRefused : (file : List ℕ) → NameLists → (input : List ℕ)
    → Refused → Type 0
IsFormulaCounterRefused file lists input refused = IsFormulaOrAutomatonUnread file input refused
    ⊎ OfFormulaAndAutomaton (λ formula strategy.
    RefusesNamedCounter formula lists strategy refused) file input
