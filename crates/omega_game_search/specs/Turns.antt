-- The turns of the searchers.
use Rattle.std.specs.Prelude.{◌≡◌, ◌↔◌, ◌⊎◌, Bool, true, false, Option, Some, None, IsSome, IsTrue}
use Rattle.omega_game_values.specs.declared.solution.Solution.{Solution}
use Rattle.omega_game_search.specs.declared.searcher.Searcher.{Searcher}
use Rattle.omega_game_search.specs.declared.searcher.Searcher.TheVariants.{Zielonka, Tangles}
use Rattle.omega_game_search.specs.declared.turns.Turn.{Turn}
use Rattle.omega_game_search.specs.declared.turns.Turn.TheVariants.{Untaken, GaveUp, Rejected, Found}
use Rattle.omega_game_search.specs.declared.turns.Turns.{Turns}

-- whether the searcher found a solution in this turn
abbrev pub has_found : Turn → Bool
has_found Untaken = false
has_found (GaveUp edges) = false
has_found (Rejected edges) = false
has_found (Found edges) = true

-- whether a searcher is to search, where one may be asked for alone
abbrev pub is_asked : Option Searcher → Searcher → Bool
is_asked None searcher = true
is_asked (Some Zielonka) Zielonka = true
is_asked (Some Zielonka) Tangles = false
is_asked (Some Tangles) Zielonka = false
is_asked (Some Tangles) Tangles = true

-- Zielonka's algorithm takes a turn unless tangle learning is asked for alone; tangle learning unless the other is
-- asked for alone or has found a solution; and there is a solution exactly if one of them found it
pub record AreTurns (alone : Option Searcher) (solution : Option Solution) (turns : Turns) : Type 0 where
  pub zielonka : (turns.zielonka ≡ Untaken) ↔ (alone ≡ Some Tangles)
  pub tangles : (turns.tangles ≡ Untaken) ↔ ((alone ≡ Some Zielonka) ⊎ IsTrue (has_found turns.zielonka))
  pub found : IsSome solution ↔ (IsTrue (has_found turns.zielonka) ⊎ IsTrue (has_found turns.tangles))
