-- The refusal of `realize -f`: that of the formula's text, or else that of the names that are given, or else that of
-- the search for an automaton of the formula, of who wins it, and of the judge. A refusal that would say of what the
-- search found that it is not of its form is a fault of the program, and is called so.
use Rattle.std.specs.Prelude.{◌≡◌, ◌⊎◌, List, ℕ}
use Rattle.omega_text.specs.Cases.{IsMemory, never, or_automaton, or_task, or_text}
use Rattle.omega_text.specs.declared.refusal.Refusal.{Refusal}
use Rattle.omega_text.specs.declared.refusal.Refusal.TheVariants.{Task}
use Rattle.omega_text.specs.declared.refusal.automaton.AutomatonFault.TheVariants.{Expansion}
use Rattle.omega_text.specs.declared.refusal.task.TaskFault.{TaskFault}
use Rattle.omega_text.specs.declared.refusal.task.TaskFault.TheVariants.{NotDeterministic, NotParity, TooLarge}
use Rattle.omega_text.specs.declared.refusal.task.TaskFault.TheVariants.{UniversalBranch, Unjudged}
use Rattle.omega_text.specs.declared.refusal.text.TextFault.TheVariants.{TooLong}
use Rattle.omega_hoa.specs.Alone.{IsAutomatonRefusal, IsAutomatonText}
use Rattle.omega_hoa_automaton.specs.Automaton.{Description}
use Rattle.omega_io.specs.declared.exit.Exit.{Exit}
use Rattle.omega_io.specs.declared.exit.Exit.TheVariants.{Done, No}
use Rattle.omega_answers_formula.specs.Formula.{OfFormula}
use Rattle.omega_ltl_determinization.specs.Refusing.{IsLarge}
use Rattle.omega_ltl_deterministic.specs.Candidate.{IsCandidate}
use Rattle.omega_ltl_formula.specs.Table.{NumberedFormula}
use Rattle.omega_ltl_text.specs.Text.{IsFormulaTextRefusal}
use Rattle.omega_solve.specs.Limits.{most_lifts}
use Rattle.omega_synth_formula.specs.CounterJudging.{IsFormulaCounterJudgement}
use Rattle.omega_synth_formula.specs.CounterRefusing.{IsFormulaCounterRefusal}
use Rattle.omega_synth_formula.specs.Judging.{IsFormulaJudgement}
use Rattle.omega_synth_formula.specs.Refusing.{IsFormulaJudgeRefusal}
use Rattle.omega_synth_formula.specs.declared.counter.FormulaCounterJudgement.{FormulaCounterJudgement}
use Rattle.omega_synth_formula.specs.declared.counter.FormulaCounterJudgement.TheVariants.{Beats}
use Rattle.omega_synth_formula.specs.declared.judgement.FormulaJudgement.{FormulaJudgement}
use Rattle.omega_synth_formula.specs.declared.judgement.FormulaJudgement.TheVariants.{Controls}
use Rattle.omega_synth_realize.specs.Refusing.{IsRealizabilityRefusal}
use Rattle.omega_answers_synth.specs.FormulaWinner.{IsProposedWinner}
use Rattle.omega_answers_synth.specs.Outputs.{AreNotOutputs, IsRefusalWithLists, NameLists, output_numbers}

-- ---- what the program found itself

-- a refusal of the form of an automaton: of its acceptance, its branching or its choices
abbrev pub IsFormFault : TaskFault → Type 0
IsFormFault NotParity = Unit {0}
IsFormFault UniversalBranch = Unit {0}
IsFormFault (NotDeterministic state) = Unit {0}
IsFormFault fault = ⊥

abbrev pub IsOfForm : Refusal → Type 0
IsOfForm = or_task IsFormFault never

-- what is refused so is the program's own: a refusal of the form is a fault of the program, any other stays as it is
pub data IsOwnRefusal (Refuses : Refusal → Type 0) (refusal : Refusal) : Type 0 where
  of_form : (found : Refusal) → Refuses found → IsOfForm found → refusal ≡ Task Unjudged
      → IsOwnRefusal Refuses refusal
  as_found : Refuses refusal → ¬ IsOfForm refusal → IsOwnRefusal Refuses refusal

-- a text is too long, or its labels are too large
abbrev pub IsOfSize : Refusal → Type 0
IsOfSize = or_text (λ fault. fault ≡ TooLong) (or_automaton (λ fault. fault ≡ Expansion) never)

-- what is refused so is a text that the program wrote: it is too large, or it is a fault of the program
pub data IsOwnTextRefusal (Refuses : Refusal → Type 0) (refusal : Refusal) : Type 0 where
  of_size : (found : Refusal) → Refuses found → IsOfSize found → refusal ≡ Task TooLarge
      → IsOwnTextRefusal Refuses refusal
  not_of_size : (found : Refusal) → Refuses found → ¬ IsOfSize found → refusal ≡ Task Unjudged
      → IsOwnTextRefusal Refuses refusal

-- ---- winners

-- why an automaton that was found is not judged to be a winner: its item is not that of the outputs, or the judge
-- refuses it, or says otherwise
pub data IsUnjudged (outs : List (List ℕ)) (a : Description) (Refuses : Refusal → Type 0)
    (Otherwise : Type 0) (refusal : Refusal) : Type 0 where
  lacks_memory : IsMemory refusal → IsUnjudged outs a Refuses Otherwise refusal
  not_outputs : AreNotOutputs outs a → refusal ≡ Task Unjudged
      → IsUnjudged outs a Refuses Otherwise refusal
  judge_refuses : IsOwnRefusal Refuses refusal → IsUnjudged outs a Refuses Otherwise refusal
  judged_otherwise : Otherwise → refusal ≡ Task Unjudged → IsUnjudged outs a Refuses Otherwise refusal

-- the judge says of an automaton that it is no controller
pub record IsNoController (formula : NumberedFormula) (outs : List (List ℕ)) (a : Description)
    : Type 0 where
  pub judgement : FormulaJudgement
  pub right : IsFormulaJudgement formula a (output_numbers a outs) judgement
  pub other : ¬ (judgement ≡ Controls)

-- or that it is no counter-strategy
pub record IsNoCounterStrategy (formula : NumberedFormula) (outs : List (List ℕ)) (a : Description)
    : Type 0 where
  pub judgement : FormulaCounterJudgement
  pub right : IsFormulaCounterJudgement formula a outs judgement
  pub other : ¬ (judgement ≡ Beats)

-- why it is not judged to be the winner that it was found as
abbrev pub IsUnjudgedWinner : NumberedFormula → (outs : List (List ℕ)) → Exit → Description
    → Refusal → Type 0
IsUnjudgedWinner formula outs Done a = IsUnjudged outs a
    (IsFormulaJudgeRefusal formula a (output_numbers a outs)) (IsNoController formula outs a)
IsUnjudgedWinner formula outs No a = IsUnjudged outs a
    (IsFormulaCounterRefusal formula a outs) (IsNoCounterStrategy formula outs a)

-- why no winner is written for a formula and its outputs: the search for an automaton of the formula passes a limit, or
-- it is not decided who wins an automaton that is proposed, or the winner's text is not read, or it is not judged
pub data IsNotWon (formula : NumberedFormula) (outs : List (List ℕ)) (refusal : Refusal)
    : Type 0 where
  no_memory : IsMemory refusal → IsNotWon formula outs refusal
  not_proposed : IsLarge refusal → IsNotWon formula outs refusal
  not_realized : (a : Description) → IsCandidate formula.table.names a
      → IsOwnRefusal (IsRealizabilityRefusal a (output_numbers a outs) most_lifts) refusal
      → IsNotWon formula outs refusal
  not_read : (exit : Exit) (text : List ℕ) → IsProposedWinner formula outs exit text
      → IsOwnTextRefusal (IsAutomatonRefusal text) refusal → IsNotWon formula outs refusal
  not_judged : (exit : Exit) (text : List ℕ) (a : Description) → IsProposedWinner formula outs exit text
      → IsAutomatonText text a → IsUnjudgedWinner formula outs exit a refusal
      → IsNotWon formula outs refusal

-- so it is with the lists of names that are given
abbrev pub RefusesWinner : NumberedFormula → NameLists → Refusal → Type 0
RefusesWinner formula lists = IsRefusalWithLists formula lists (IsNotWon formula)

-- the refusal of `realize -f`, with and without `--controller`
abbrev pub IsFormulaRealizeRefusal : (text : List ℕ) → NameLists → Refusal → Type 0
IsFormulaRealizeRefusal text lists refusal = IsFormulaTextRefusal text refusal
    ⊎ OfFormula (λ formula. RefusesWinner formula lists refusal) text
