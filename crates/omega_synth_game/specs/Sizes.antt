-- How large the game of an automaton is, by its states, its edges, and the classes of letters in each state.
use Rattle.std.specs.Prelude.{◌≡◌, ◌⊎◌, ℕ, ◌+◌, ◌<◌, ◌≤◌, List, length, sum_by}
use Rattle.omega_text.specs.declared.refusal.game.GameFault.{GameFault}
use Rattle.omega_text.specs.declared.refusal.game.GameFault.TheVariants.{DuplicateNode, HeaderTooSmall}
use Rattle.omega_text.specs.declared.refusal.game.GameFault.TheVariants.{TooManyEdges, TooManyNodes}
use Rattle.omega_text.specs.declared.refusal.game.GameFault.TheVariants.{UndefinedSuccessor}
use Rattle.omega_hoa_automaton.specs.Automaton.{Description, edge_count}
use Rattle.omega_game_values.specs.Limits.{most_nodes, most_successors}
use Rattle.omega_synth_rounds.specs.RoundsGame.{answer_count}
use Rattle.omega_synth_game.specs.Making.{AreClassesOf, HasManyQuestions, class_count}

-- the nodes of the game: the states, the edges, the sink and the classes
abbrev pub node_total : Description → List (List (List ℕ)) → ℕ
node_total a classes = a.states + edge_count a + 1 + class_count classes

-- the edges of the game: from states to their classes, one from each edge and from the sink, and from each class to the
-- edges that answer it, or to the sink alone
abbrev pub edge_total : Description → List (List (List ℕ)) → ℕ
edge_total a classes =
    class_count classes + edge_count a + 1 + sum_by (λ here. sum_by answer_count here) classes

-- the game of all states has more nodes than a game may have
pub record IsGameLong (a : Description) (controlled : List ℕ) : Type 0 where
  pub classes : List (List (List ℕ))
  pub all : length classes ≡ a.states
  pub each : AreClassesOf a controlled classes
  pub many : most_nodes < node_total a classes

-- the game has more nodes than a game may have, or the first states have as many classes already
abbrev pub HasManyNodes : Description → List ℕ → Type 0
HasManyNodes a controlled = HasManyQuestions a controlled ⊎ IsGameLong a controlled

-- the game has no more nodes, and more edges than a game may have
pub record HasManyEdges (a : Description) (controlled : List ℕ) : Type 0 where
  pub classes : List (List (List ℕ))
  pub all : length classes ≡ a.states
  pub each : AreClassesOf a controlled classes
  pub few : node_total a classes ≤ most_nodes
  pub many : most_successors < edge_total a classes

-- the game has neither more nodes nor more edges than a game may have
pub record IsGameSmall (a : Description) (controlled : List ℕ) : Type 0 where
  pub classes : List (List (List ℕ))
  pub all : length classes ≡ a.states
  pub each : AreClassesOf a controlled classes
  pub nodes : node_total a classes ≤ most_nodes
  pub edges : edge_total a classes ≤ most_successors

-- the fault of a game that is too large
abbrev pub IsSizeFault : Description → List ℕ → GameFault → Type 0
IsSizeFault a controlled TooManyNodes = HasManyNodes a controlled
IsSizeFault a controlled TooManyEdges = HasManyEdges a controlled
IsSizeFault a controlled DuplicateNode = ⊥
IsSizeFault a controlled UndefinedSuccessor = ⊥
IsSizeFault a controlled HeaderTooSmall = ⊥
