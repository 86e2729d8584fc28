-- The looks of nodes by the marks of a lasso.
use Rattle.std.specs.Prelude.{ℕ, Option, None, Some, List}
use Rattle.omega_game_values.specs.Game.{Node}
use Rattle.omega_game_values.specs.declared.player.Player.{Player}
use Rattle.omega_game_values.specs.declared.solution.Solution.{Solution}
use Rattle.omega_game_values.specs.Solution.{winner_at}
use Rattle.omega_game_dot.specs.GameDrawing.{choice_in}
use Rattle.omega_game_dot.specs.Nodes.{Look}
use Rattle.omega_game_dot.specs.declared.marks.LassoMarks.{LassoMarks}
use Rattle.omega_game_dot.specs.private.Marking.{marked_edge, marked_node}

-- the look of the node at a place, with its winner and its owner's choice if they are known
abbrev pub marked_look : Option Player → Option ℕ → LassoMarks → ℕ → Look
marked_look winner choice marks place = record {
  winner = winner;
  choice = choice;
  role = marked_node marks place;
  edges = marked_edge marks place;
}

-- with neither
abbrev pub unsolved_look : LassoMarks → ℕ → Look
unsolved_look marks place = marked_look None None marks place

-- with those of a solution
abbrev pub look_in : List Node → Solution → LassoMarks → ℕ → Look
look_in nodes solution marks place =
    marked_look (Some (winner_at solution place)) (choice_in nodes solution place) marks place
