-- What a search of an automaton for a letter of the environment finds: a state that is reached and does not answer it,
-- or none.
use Rattle.std.specs.Prelude.{ℕ, Bool, List, Option, None, Some}
use Rattle.omega_hoa_automaton.specs.Automaton.{Description}
use Rattle.omega_synth_check.specs.Judging.{IsAnswered, IsLack, IsReached}
use Rattle.omega_synth_check.specs.Refusing.{HasManyStates, MentionsFew}
use Rattle.omega_synth_check.specs.declared.judgement.Lack.{Lack}

-- a state answers each letter
abbrev pub AnswersEach : Description → List ℕ → ℕ → Type 0
AnswersEach a controlled state = (given : ℕ → Bool) → IsAnswered a controlled state given

-- so it does, and its labels mention few of the environment's propositions
abbrev pub IsSettled : Description → List ℕ → ℕ → Type 0
IsSettled a controlled state = AnswersEach a controlled state × MentionsFew a controlled state

-- the states that are reached are not too many, and each is settled
abbrev pub AreReachedSettled : Description → List ℕ → Type 0
AreReachedSettled a controlled = (HasManyStates a → ⊥)
    × ((state : ℕ) → IsReached a state → IsSettled a controlled state)

-- a lack is one, or each state that is reached answers each letter
abbrev pub IsLackOf : Description → List ℕ → Option Lack → Type 0
IsLackOf a controlled None = AreReachedSettled a controlled
IsLackOf a controlled (Some lack) = IsLack a controlled lack
