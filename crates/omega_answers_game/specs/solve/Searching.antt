-- What a search of a game is to be, and what it leaves: the turns of the searchers.
use Rattle.std.specs.Prelude.{◌≡◌, ◌⊎◌, Option, Some, None, ℕ}
use Rattle.omega_game_values.specs.declared.solution.Solution.{Solution}
use Rattle.omega_game_search.specs.Turns.{AreTurns}
use Rattle.omega_game_search.specs.declared.searcher.Searcher.{Searcher}
use Rattle.omega_game_search.specs.declared.turns.Turns.{Turns}
use Rattle.omega_answers_game.specs.declared.solve.searching.Searching.{Searching}

-- a search that is to be made: by one searcher alone, or by both in turns if none is asked for
abbrev pub unsearched : (alone : Option Searcher) → (effort : ℕ) → Searching
unsearched alone effort = record { alone = alone; effort = effort; turns = None }

-- the game was searched, and the turns that were then taken are added
pub record IsSearched (before after : Searching) : Type 0 where
  pub turns : Turns
  pub solution : Option Solution
  pub taken : AreTurns before.alone solution turns
  pub added : after ≡ record before { turns = Some turns }

-- the game was searched, or the search did not come to an end, and nothing is added
abbrev pub MaySearch : (before after : Searching) → Type 0
MaySearch before after = IsSearched before after ⊎ (after ≡ before)
