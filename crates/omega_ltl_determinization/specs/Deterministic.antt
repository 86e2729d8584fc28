-- What makes flat arrays a deterministic automaton within the limits.
use Rattle.std.specs.Prelude.{◌≡◌, ◌<◌, ◌≤◌, ◌*◌, ℕ, List, length, All}
use Rattle.omega_ltl_determinization.specs.Letters.{words_of}
use Rattle.omega_ltl_determinization.specs.Limits.{most_names, most_states, most_words}
use Rattle.omega_ltl_determinization.specs.declared.deterministic.DeterministicAutomaton.{DeterministicAutomaton}
use Rattle.omega_ltl_determinization.specs.declared.deterministic.DeterministicEdge.{DeterministicEdge}

-- arrays within the limits: the start and each target are states, each row ends among the edges, and each edge has
-- its letters
pub record IsFlat (names start : ℕ) (ends : List ℕ) (edges : List DeterministicEdge) (letters : List ℕ)
    : Type 0 where
  pub few_names : names ≤ most_names
  pub started : start < length ends
  pub few_states : length ends ≤ most_states
  pub few_words : length letters ≤ most_words
  pub lettered : length letters ≡ words_of names * length edges
  pub rows : All (λ end. end ≤ length edges) ends
  pub targets : All (λ edge. edge.target < length ends) edges

-- an automaton whose arrays are within the limits
abbrev pub IsWellFormed : DeterministicAutomaton → Type 0
IsWellFormed a = IsFlat a.names a.start a.ends a.edges a.letters
