-- The lines on a search of a game: how the turns of the searchers ended.
use Rattle.std.specs.Prelude.{◌++◌, ◌||◌, Bool, false, true, List, [], Option, Some, None, ℕ, codes, decimal}
use Rattle.omega_game_search.specs.Turns.{has_found}
use Rattle.omega_game_search.specs.declared.turns.Turn.{Turn}
use Rattle.omega_game_search.specs.declared.turns.Turn.TheVariants.{Found, GaveUp, Rejected, Untaken}
use Rattle.omega_game_search.specs.declared.turns.Turns.{Turns}
use Rattle.omega_answers_game.specs.declared.solve.searching.Searching.{Searching}

-- the line on a turn: which searcher, how it ended, and how many edges were visited
abbrev pub ending_line : (name ending : List ℕ) → (edges : ℕ) → List ℕ
ending_line name ending edges =
    codes "omega: " ++ name ++ ending ++ decimal edges ++ codes " edges\n"

-- there is none on a turn that was not taken
abbrev pub turn_line : (name : List ℕ) → Turn → List ℕ
turn_line name Untaken = []
turn_line name (GaveUp edges) = ending_line name (codes " gave up after ") edges
turn_line name (Rejected edges) = ending_line name (codes " found nothing right after ") edges
turn_line name (Found edges) = ending_line name (codes " found the solution after ") edges

-- the line that says that the game is lifted: there is none if a searcher found a solution
abbrev pub lifted_line : (found : Bool) → List ℕ
lifted_line true = []
lifted_line false = codes "omega: the game is lifted\n"

-- whether a searcher found a solution in its turn
abbrev pub have_found : Turns → Bool
have_found turns = has_found turns.zielonka || has_found turns.tangles

-- the lines on the turns of both searchers
abbrev pub turn_lines : Turns → List ℕ
turn_lines turns = (turn_line (codes "zielonka") turns.zielonka
    ++ turn_line (codes "tangles") turns.tangles) ++ lifted_line (have_found turns)

-- those on the turns that were taken, if any were
abbrev pub taken_lines : Option Turns → List ℕ
taken_lines None = []
taken_lines (Some turns) = turn_lines turns

-- the lines on a search, with `--verbose`
abbrev pub search_lines : (verbose : Bool) → Searching → List ℕ
search_lines false searching = []
search_lines true searching = taken_lines searching.turns
