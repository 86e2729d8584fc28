-- The answers that a counter-strategy follows: in each state that it reaches it goes on whatever the system answers to
-- a letter of the environment. The system controls the propositions with some names, and the environment all others.
use Rattle.std.specs.Prelude.{ℕ, List, Option, None, Some}
use Rattle.omega_text.specs.declared.refusal.Refusal.{Refusal}
use Rattle.omega_hoa_automaton.specs.Automaton.{Description}
use Rattle.omega_lang_complement.specs.Complement.{HasComplement, IsComplement}
use Rattle.omega_lang_complement.specs.Refusing.{IsUncomplemented}
use Rattle.omega_lang_runs.specs.Lasso.{IsStart, Leads}
use Rattle.omega_synth_check.specs.CounterJudging.{GoesOn, IsGiven, NamedLetter}
use Rattle.omega_synth_check.specs.CounterRefusing.{system_numbers}
use Rattle.omega_synth_check.specs.Judging.{IsReached}
use Rattle.omega_synth_check.specs.WaysOut.{IsWayRefusal}
use Rattle.omega_synth_formula.specs.declared.counter.LetterlessState.{LetterlessState}

-- in a state the environment has a letter: whatever the system answers, the strategy goes on
pub record HasFollowedLetter (strategy : Description) (controlled : List (List ℕ))
    (state : ℕ) : Type 0 where
  pub given : NamedLetter
  pub follows : (letter : NamedLetter) → IsGiven controlled given letter
      → GoesOn strategy letter state

-- the strategy has a start
abbrev pub Begins : Description → Type 0
Begins strategy = (start : ℕ) × IsStart strategy start

-- so it has a letter in each state that it reaches
abbrev pub FollowsEach : Description → List (List ℕ) → Type 0
FollowsEach strategy controlled =
    (state : ℕ) → IsReached strategy state → HasFollowedLetter strategy controlled state

-- the stem leads from a start to the state, in which the environment has no such letter
pub record IsLetterlessState (strategy : Description) (controlled : List (List ℕ))
    (letterless : LetterlessState) : Type 0 where
  pub start : ℕ
  pub begins : IsStart strategy start
  pub leads : Leads strategy start letterless.stem letterless.state
  pub none : ¬ HasFollowedLetter strategy controlled letterless.state

-- what a search for one found: such a state, or that the environment has a letter in each
abbrev pub IsLetterlessFound : Description → List (List ℕ) → Option LetterlessState → Type 0
IsLetterlessFound strategy controlled None = FollowsEach strategy controlled
IsLetterlessFound strategy controlled (Some letterless) =
    IsLetterlessState strategy controlled letterless

-- the refusal of the search for a state without a letter: that of the complement of the strategy, or else that of the
-- search whose ways out are its edges
pub data IsLetterlessRefusal (strategy : Description) (controlled : List (List ℕ)) (refusal : Refusal)
    : Type 0 where
  not_complemented : IsUncomplemented strategy refusal → IsLetterlessRefusal strategy controlled refusal
  not_searched : (complement : Description) → HasComplement strategy → IsComplement strategy complement
      → IsWayRefusal strategy complement (system_numbers complement.propositions controlled) refusal
      → IsLetterlessRefusal strategy controlled refusal
