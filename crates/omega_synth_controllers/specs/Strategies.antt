-- Strategies of the system and of the environment, and the words that come of them. In each round the environment gives
-- its letter, and then the system gives its own. So the system is a Mealy machine, and the environment a Moore machine.
use Rattle.std.specs.Prelude.{ℕ, zero, suc, Bool, ◌==◌, if◌then◌else◌, List, [], ◌∷◌, Contains}
use Rattle.std.specs.List.{list_any}
use Rattle.omega_hoa_automaton.specs.Automaton.{Description}
use Rattle.omega_lang_runs.specs.Runs.{IsRun}
use Rattle.omega_lang_runs.specs.Words.{CanBeTaken, IsAccepted}

-- one side's letters of the first `rounds` rounds, the last first
abbrev pub so_far : (ℕ → ℕ → Bool) → ℕ → List (ℕ → Bool)
so_far given zero = []
so_far given (suc rounds) = given rounds ∷ so_far given rounds

-- a strategy of the system: its letter of a round, from the environment's letters so far, that of the round among them
abbrev pub System : Type 0
System = List (ℕ → Bool) → ℕ → Bool

-- whether the system controls a proposition
abbrev pub is_controlled : List ℕ → ℕ → Bool
is_controlled controlled p = list_any (λ other. other == p) controlled

-- the letter of a round: the system's letter for the propositions that it controls, the environment's for the others
abbrev pub joined : List ℕ → (ℕ → Bool) → (ℕ → Bool) → ℕ → Bool
joined controlled own given p = if is_controlled controlled p then own p else given p

-- the word of the environment's letters, one for each round, and of a strategy's answers
abbrev pub word_of : List ℕ → System → (ℕ → ℕ → Bool) → ℕ → ℕ → Bool
word_of controlled system given round =
    joined controlled (system (so_far given (suc round))) (given round)

-- a run of kept edges on a word: each edge can be taken at the word's letter
pub record IsKeptRun (a : Description) (kept : List ℕ) (word : ℕ → ℕ → Bool)
    (states edges : ℕ → ℕ) : Type 0 where
  pub run : IsRun a states edges
  pub all_kept : (i : ℕ) → Contains kept (edges i)
  pub taken : (i : ℕ) → CanBeTaken a (edges i) (word i)

-- a word has a run of kept edges
abbrev pub HasKeptRun : Description → List ℕ → (ℕ → ℕ → Bool) → Type 0
HasKeptRun a kept word = (states : ℕ → ℕ) × ((edges : ℕ → ℕ) × IsKeptRun a kept word states edges)

-- a strategy realizes an automaton: whatever the environment gives, the word of it and of the answers is accepted
abbrev pub Realizes : Description → List ℕ → System → Type 0
Realizes a controlled system =
    (given : ℕ → ℕ → Bool) → IsAccepted a (word_of controlled system given)

-- a strategy realizes an automaton by kept edges: each such word is accepted by a run of these edges alone
abbrev pub RealizesBy : Description → List ℕ → List ℕ → System → Type 0
RealizesBy a controlled kept system =
    (given : ℕ → ℕ → Bool) → (accepted : IsAccepted a (word_of controlled system given))
    × ((i : ℕ) → Contains kept (accepted.edges i))

-- an automaton is refuted: for each strategy of the system there are letters of the environment such that the word of
-- them and of the answers is not accepted
abbrev pub IsRefuted : Description → List ℕ → Type 0
IsRefuted a controlled =
    (system : System) → (given : ℕ → ℕ → Bool) × ¬ IsAccepted a (word_of controlled system given)

-- a strategy of the environment: its letter of a round, from the system's letters of the rounds before, the last first
abbrev pub Environment : Type 0
Environment = List (ℕ → Bool) → ℕ → Bool

-- the word of the system's letters, one for each round, and of what a strategy of the environment gives
abbrev pub word_against : List ℕ → Environment → (ℕ → ℕ → Bool) → ℕ → ℕ → Bool
word_against controlled environment own round =
    joined controlled (own round) (environment (so_far own round))

-- a strategy of the environment beats an automaton: whatever the system answers, the word of the two is not accepted
abbrev pub Beats : Description → List ℕ → Environment → Type 0
Beats a controlled environment =
    (own : ℕ → ℕ → Bool) → ¬ IsAccepted a (word_against controlled environment own)
