-- Following the choices of player 0 from the node of a start that it wins.
use Rattle.std.specs.Prelude.{◌≡◌, ◌<◌, ◌≤◌, Bool, true, List, ℕ, Some, drop, length, slice_get, take}
use Rattle.omega_hoa_automaton.specs.Automaton.{Description}
use Rattle.omega_game_values.specs.Game.{Node, identifier_at}
use Rattle.omega_lang_runs.specs.Lasso.{IsAcceptingLasso, IsStart}
use Rattle.omega_lang_runs.specs.declared.verdict.Verdict.{Verdict}
use Rattle.omega_lang_runs.specs.declared.verdict.Verdict.TheVariants.{Lasso}

-- the node with the identifier is at the place, which is among those won
pub record IsWonAt (game : List Node) (won : List Bool) (identifier v : ℕ) : Type 0 where
  pub node : v < length game
  pub named : identifier_at game v ≡ identifier
  pub is_won : slice_get won v ≡ Some true

-- the node of a start, at the first counter, is at the place, which is among those won
pub record IsWonStart (a : Description) (game : List Node) (won : List Bool) (v : ℕ) : Type 0 where
  pub start : ℕ
  pub begins : IsStart a start
  pub stands : IsWonAt game won start v

-- the node with the identifier is at no place among those won
abbrev pub IsWonNowhere : List Node → List Bool → ℕ → Type 0
IsWonNowhere game won identifier = (v : ℕ) → ¬ IsWonAt game won identifier v

-- the node of no start, at the first counter, is at a place among those won
abbrev pub HasNoWonStart : Description → List Node → List Bool → Type 0
HasNoWonStart a game won = (start v : ℕ) → IsStart a start → ¬ IsWonAt game won start v

-- the lasso of edges whose cycle begins after the first of them
abbrev pub lasso_at : List ℕ → (loop_start : ℕ) → Verdict
lasso_at edges loop_start = Lasso (take loop_start edges) (drop loop_start edges)

-- the edges before the loop are the stem of an accepting lasso, and those after them are its cycle
pub record IsLooped (a : Description) (edges : List ℕ) (loop_start : ℕ) : Type 0 where
  pub within : loop_start ≤ length edges
  pub accepting : IsAcceptingLasso a (take loop_start edges) (drop loop_start edges)
