-- The answer of `empty` for the text of one automaton: an accepting lasso, or `empty` only if no lasso accepts; and its
-- refusals.
use Rattle.std.specs.Prelude.{◌≡◌, ◌++◌, Bool, true, false, if◌then◌else◌, List, [], ℕ, codes}
use Rattle.omega_text.specs.declared.refusal.Refusal.{Refusal}
use Rattle.omega_hoa_automaton.specs.Automaton.{Description}
use Rattle.omega_empty.specs.Refusing.{IsGiven}
use Rattle.omega_empty.specs.Deciding.{IsDecidedWithin, IsEmptinessRefusal}
use Rattle.omega_lang_runs.specs.Verdict.{IsVerdict}
use Rattle.omega_lang_runs.specs.declared.verdict.Verdict.{Verdict}
use Rattle.omega_lang_runs.specs.declared.verdict.Verdict.TheVariants.{Empty, Lasso}
use Rattle.omega_io.specs.declared.exit.Exit.{Exit}
use Rattle.omega_io.specs.declared.exit.Exit.TheVariants.{Done, No}
use Rattle.omega_lang_lasso_search.specs.Searching.{IsSearchRefusal, IsSearchable}
use Rattle.omega_answers.specs.OneAutomaton.{IsRefusalOfText, OfAutomaton}
use Rattle.omega_answers_empty.specs.declared.lines.Lines.{Lines}
use Rattle.omega_lang_lasso_word.specs.RunText.{run_text}
use Rattle.omega_lang_lasso_text.specs.Written.{lasso_text}
use Rattle.omega_lang_lasso_word.specs.WordText.{word_text}

-- the line of the word of a lasso, if it is wanted
abbrev pub word_line : Description → Bool → (stem cycle : List ℕ) → List ℕ
word_line automaton wanted stem cycle =
    if wanted then codes "word " ++ (word_text automaton stem cycle ++ codes "\n") else []

-- the line of the run of a lasso, if it is wanted
abbrev pub run_line : Description → Bool → (stem cycle : List ℕ) → List ℕ
run_line automaton wanted stem cycle =
    if wanted then codes "run " ++ (run_text automaton stem cycle ++ codes "\n") else []

-- the lines of a lasso, and those of its word and of its run that are wanted
abbrev pub lasso_lines : Description → Lines → (stem cycle : List ℕ) → List ℕ
lasso_lines automaton lines stem cycle = lasso_text stem cycle
    ++ (word_line automaton lines.word stem cycle ++ run_line automaton lines.run stem cycle)

-- the output for a verdict: `empty`, or the lines of the lasso
abbrev pub emptiness_text : Description → Lines → Verdict → List ℕ
emptiness_text automaton lines Empty = codes "empty\n"
emptiness_text automaton lines (Lasso stem cycle) = lasso_lines automaton lines stem cycle

-- how `empty` ends after a verdict: with `status` as `No` if no lasso accepts
abbrev pub exit_after : (status : Bool) → Verdict → Exit
exit_after false verdict = Done
exit_after true Empty = No
exit_after true (Lasso stem cycle) = Done

-- the output of a search for an automaton without universal branching: a right verdict, an accepting lasso or that none
-- accepts
pub record IsSearchDecision (automaton : Description) (lines : Lines) (output : List ℕ) : Type 0 where
  pub given : IsSearchable automaton
  pub verdict : Verdict
  pub right : IsVerdict automaton verdict
  pub written : output ≡ emptiness_text automaton lines verdict

-- such an output, and how `empty` ends after it
abbrev pub EndsSearch : Description → Lines → (status : Bool) → Exit → List ℕ → Type 0
EndsSearch automaton lines status exit output =
    (decided : IsSearchDecision automaton lines output) × (exit ≡ exit_after status decided.verdict)

-- the output for an automaton that has an emptiness game, which is solved within the budget: a right verdict
pub record IsDecision (automaton : Description) (budget : ℕ) (lines : Lines)
    (output : List ℕ) : Type 0 where
  pub given : IsGiven automaton
  pub within : IsDecidedWithin budget automaton
  pub verdict : Verdict
  pub right : IsVerdict automaton verdict
  pub written : output ≡ emptiness_text automaton lines verdict

-- such an output, and how `empty` ends after it
abbrev pub EndsDecision : Description → (budget : ℕ) → Lines → (status : Bool) → Exit → List ℕ → Type 0
EndsDecision automaton budget lines status exit output =
    (decided : IsDecision automaton budget lines output) × (exit ≡ exit_after status decided.verdict)

-- what `empty --search` writes: the text is that of an automaton, and this is the output of the search for it
abbrev pub IsEmptySearchAnswer : List ℕ → Lines → List ℕ → Type 0
IsEmptySearchAnswer text lines output =
    OfAutomaton (λ automaton. IsSearchDecision automaton lines output) text

-- the answer of `empty --search`: what it writes, and how it ends
abbrev pub EndsEmptySearch : List ℕ → Lines → (status : Bool) → Exit → List ℕ → Type 0
EndsEmptySearch text lines status exit output =
    OfAutomaton (λ automaton. EndsSearch automaton lines status exit output) text

-- what `empty` writes with a budget: the text is that of an automaton, and this is the output for it
abbrev pub IsEmptyAnswer : List ℕ → (budget : ℕ) → Lines → List ℕ → Type 0
IsEmptyAnswer text budget lines output =
    OfAutomaton (λ automaton. IsDecision automaton budget lines output) text

-- the answer of `empty` with a budget: what it writes, and how it ends
abbrev pub EndsEmpty : List ℕ → (budget : ℕ) → Lines → (status : Bool) → Exit → List ℕ → Type 0
EndsEmpty text budget lines status exit output =
    OfAutomaton (λ automaton. EndsDecision automaton budget lines status exit output) text

-- the refusal of `empty`: that of the text, or else that of deciding its automaton by lifting
abbrev pub IsEmptyRefusal : List ℕ → (budget : ℕ) → Refusal → Type 0
IsEmptyRefusal text budget =
    IsRefusalOfText (λ automaton refusal. IsEmptinessRefusal automaton budget refusal) text

-- the refusal of `empty --search`, which has no budget: that of the text, or else that of the search in its automaton
abbrev pub IsEmptySearchRefusal : List ℕ → Refusal → Type 0
IsEmptySearchRefusal = IsRefusalOfText IsSearchRefusal
