-- The solution of a game that a text describes.
use Rattle.std.specs.Prelude.{ℕ, ◌≤◌, List, length, map, option_map}
use Rattle.std.specs.List.{range_with_len}
use Rattle.omega_text.specs.Limits.{most_text}
use Rattle.omega_game_values.specs.Game.{Node, node_at, owner_at, greatest_identifier}
use Rattle.omega_text.specs.Syntax.{IsTextOf}
use Rattle.omega_pg.specs.solution.Grammar.{SolutionLine, RawSolution, solution_syntax}
use Rattle.omega_game_values.specs.Solution.{IsSolution, choices_of, winner_at}
use Rattle.omega_game_values.specs.Winning.{choice_at}
use Rattle.omega_game_values.specs.declared.solution.Solution.{Solution}

-- the line of the node at a place, with the choice of its owner by its identifier
abbrev pub line_at : List Node → Solution → ℕ → SolutionLine
line_at nodes solution v = record {
  identifier = (node_at nodes v).identifier;
  winner = winner_at solution v;
  successor = option_map (λ w. (node_at nodes w).identifier)
      (choice_at (choices_of solution (owner_at nodes v)) v);
}

-- what is written of a solution: the greatest identifier, and a line for each node in rising order
abbrev pub raw_solution : List Node → Solution → RawSolution
raw_solution nodes solution = record {
  greatest = greatest_identifier nodes;
  lines = map (line_at nodes solution) (range_with_len 0 (length nodes));
}

-- the text describes the solution of the game
pub record IsSolutionText (nodes : List Node) (source : List ℕ) (solution : Solution) : Type 0 where
  pub short : length source ≤ most_text
  pub writes : IsTextOf solution_syntax source (raw_solution nodes solution)
  pub fits : IsSolution nodes solution
