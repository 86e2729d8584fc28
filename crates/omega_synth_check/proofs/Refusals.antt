-- Refusals of the steps are refusals of the search and of the judge.
use Rattle.std.proofs.Common.{◌≡◌, inl, inr, ℕ, List, Contains, Option, None, Some, sym, subst}
use Rattle.omega_text.specs.declared.refusal.Refusal.{Refusal}
use Rattle.omega_text.specs.declared.refusal.Refusal.TheVariants.{Automaton, Circuit, Game, Io, Memory, Task, Text}
use Rattle.omega_text.specs.declared.refusal.task.TaskFault.{TaskFault}
use Rattle.omega_text.specs.declared.refusal.task.TaskFault.TheVariants.{TooManyPropositions}
use Rattle.omega_hoa_automaton.specs.Automaton.{Description}
use Rattle.omega_lang_runs.specs.Judging.{GivesUpOn}
use Rattle.omega_synth_game.specs.Making.{AllLeave, IsAskingFault, IsQuestionsOfRefusal}
use Rattle.omega_hoa_edges.proofs.Refusals.{task_weaker}
use Rattle.omega_synth_check.specs.CounterRefusing as counter
use Rattle.omega_synth_check.specs.CounterRefusing.{IsCounterRefusal}
use Rattle.omega_synth_check.specs.Judging.{IsReached}
use Rattle.omega_synth_check.specs.Refusing.{IsFormFault, IsFormRefusal, IsHardEdge, IsJudgeRefusal, IsLetterFault, IsLetterRefusal, IsLetterSearched, branches, hard_label, not_all, not_asked}
use Rattle.omega_synth_check.specs.private.Searching.{HaveHardEdge}
use Rattle.omega_synth_check.specs.Lacks.{IsLackOf}
use Rattle.omega_synth_check.specs.declared.judgement.Lack.{Lack}

-- a label of an edge of a state that is reached is given up
pub hard_refused : (a : Description) (controlled : List ℕ) (state : ℕ) (numbers : List ℕ) → IsReached a state → AllLeave a state numbers → (refusal : Refusal)
    → GivesUpOn (HaveHardEdge a numbers) refusal → IsLetterRefusal a controlled refusal
hard_refused a controlled state numbers reached leave refusal refused =
    task_weaker (λ fault. (fault ≡ TooManyPropositions) × HaveHardEdge a numbers) (IsLetterFault a controlled)
    (λ fault hard. subst (IsLetterFault a controlled) (sym hard.0)
    (hard_label (record { state = state; number = hard.1.0; reached = reached; leaving = leave hard.1.0 hard.1.1; hard = hard.1.2 }))) refusal refused

-- an edge that is given up is one of the edges
pub hard_among : (a : Description) (numbers : List ℕ) (number : ℕ) → Contains numbers number → (refusal : Refusal) → GivesUpOn (IsHardEdge a number) refusal
    → GivesUpOn (HaveHardEdge a numbers) refusal
hard_among a numbers number has refusal refused =
    task_weaker (λ fault. (fault ≡ TooManyPropositions) × IsHardEdge a number) (λ fault. (fault ≡ TooManyPropositions) × HaveHardEdge a numbers)
    (λ fault hard. (hard.0, (number, has, hard.1))) refusal refused

-- the letters were searched to the end
pub letters_searched : (a : Description) (controlled : List ℕ) (found : Option Lack) → IsLackOf a controlled found → IsLetterSearched a controlled
letters_searched a controlled None settled = inr (settled.0, λ state reached. (settled.1 state reached).1)
letters_searched a controlled (Some lack) lacks = inl (lack, lacks)

-- the letters of a state that is reached
pub unasked_refused : (a : Description) (controlled : List ℕ) (state : ℕ) (numbers : List ℕ) → IsReached a state → AllLeave a state numbers → (refusal : Refusal)
    → IsQuestionsOfRefusal a controlled numbers refusal → IsLetterRefusal a controlled refusal
unasked_refused a controlled state numbers reached leave refusal refused =
    task_weaker (IsAskingFault a controlled numbers) (IsLetterFault a controlled) (λ fault asking. not_asked fault state numbers reached leave asking) refusal refused

-- for the same propositions
pub letters_refused : (a : Description) (controlled also : List ℕ) → controlled ≡ also → (refusal : Refusal) → IsLetterRefusal a controlled refusal
    → IsLetterRefusal a also refusal
letters_refused a controlled also same refusal refused = subst (λ (numbers : List ℕ). IsLetterRefusal a numbers refusal) same refused

-- want of memory
pub memory_letter : (a : Description) (controlled : List ℕ) (refusal : Refusal) → refusal ≡ Memory → IsLetterRefusal a controlled refusal
memory_letter a controlled refusal is = subst (IsLetterRefusal a controlled) (sym is) tt

-- the form of the controller
pub form_refused : (specification a : Description) (controlled : List ℕ) (refusal : Refusal) → IsFormRefusal a refusal
    → IsJudgeRefusal specification a controlled refusal
form_refused specification a controlled (Task fault) refused = go fault refused
  where
    go : (f : TaskFault) → IsFormFault a f → IsJudgeRefusal specification a controlled (Task f)
    go f (inl found) = subst (λ (g : TaskFault). IsJudgeRefusal specification a controlled (Task g)) (sym found.0) (branches found.1)
    go f (inr other) = subst (λ (g : TaskFault). IsJudgeRefusal specification a controlled (Task g)) (sym other.0) (not_all other.1 other.2)
form_refused specification a controlled Memory refused = absurd refused
form_refused specification a controlled (Text fault) refused = absurd refused
form_refused specification a controlled (Game fault) refused = absurd refused
form_refused specification a controlled (Circuit fault) refused = absurd refused
form_refused specification a controlled (Automaton fault) refused = absurd refused
form_refused specification a controlled Io refused = absurd refused

-- the form of a counter-strategy
pub counter_form_refused : (specification a : Description) (controlled : List (List ℕ)) (refusal : Refusal) → IsFormRefusal a refusal
    → IsCounterRefusal specification a controlled refusal
counter_form_refused specification a controlled (Task fault) refused = go fault refused
  where
    go : (f : TaskFault) → IsFormFault a f → IsCounterRefusal specification a controlled (Task f)
    go f (inl found) = subst (λ (g : TaskFault). IsCounterRefusal specification a controlled (Task g)) (sym found.0) (counter.branches found.1)
    go f (inr other) = subst (λ (g : TaskFault). IsCounterRefusal specification a controlled (Task g)) (sym other.0) (counter.not_all other.1 other.2)
counter_form_refused specification a controlled Memory refused = absurd refused
counter_form_refused specification a controlled (Text fault) refused = absurd refused
counter_form_refused specification a controlled (Game fault) refused = absurd refused
counter_form_refused specification a controlled (Circuit fault) refused = absurd refused
counter_form_refused specification a controlled (Automaton fault) refused = absurd refused
counter_form_refused specification a controlled Io refused = absurd refused
